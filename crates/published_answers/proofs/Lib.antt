-- The proof of what specs/ states.
pub mod Answers
pub mod Graphs
mod Example
mod StopExample
mod GraphExample

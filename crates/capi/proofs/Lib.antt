-- What the proofs of the functions use.
mod Serving
pub mod Writing
pub mod Claims
pub mod Graphs

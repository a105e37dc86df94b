-- What a caller from another language must believe: the words that tell an answer, and what a call leaves in the lent buffers.
pub mod Words
pub mod Calls
pub mod Claims
pub mod Graphs

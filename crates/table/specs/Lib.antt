-- What a reader of this crate must believe: document 01's job table, sentence by sentence.
pub mod Words
pub mod Nodes
pub mod Walk
pub mod Read
pub mod WellFormed
pub mod Before

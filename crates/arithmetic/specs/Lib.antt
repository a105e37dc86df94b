-- What a reader of this crate must believe: the result of each of document 01's operations.
pub mod Operate

-- Laws about words that are written, which this crate's proofs cite and other crates' may.
pub mod Words
pub mod Writes

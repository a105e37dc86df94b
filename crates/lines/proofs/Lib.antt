-- Laws about texts that are written, which this crate's proofs cite and other crates' may.
pub mod Buffer
mod Digits
mod Cases
pub mod Quotient
mod Examples

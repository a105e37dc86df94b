-- Laws about the definitions of specs/, which this crate's proofs cite and other crates' may.
pub mod Cases
pub mod Results

-- Laws about the definitions of specs/, which this crate's proofs cite and other crates' may.
pub mod Tags
pub mod Shapes
pub mod Walking
pub mod Bodies
pub mod InOrder
pub mod Trees
pub mod Views
pub mod Acceptance
pub mod Filling
pub mod Unchanged

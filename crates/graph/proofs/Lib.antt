-- The proofs of what specs/ states. Another crate cites them so: `use Rattle.graph.proofs.Words.{worked_out}`.
pub mod Words
pub mod Lengths
pub mod OneGraph
pub mod Runs
pub mod Holding
pub mod Tracking
pub mod Examples

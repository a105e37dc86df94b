-- The proofs of what specs/ states. Another crate cites them so: `use Rattle.schedule.proofs.Demand.{demand_3}`.
pub mod Graph
pub mod Moves
pub mod Runs
pub mod Stacks
pub mod Finish
pub mod Homomorphism
pub mod ToCome
pub mod Lockstep
pub mod Potential
pub mod Parallel
pub mod Heartbeat
pub mod WorkCount
pub mod Demand
pub mod Values
pub mod Depth
pub mod Bounds
pub mod Stopping
pub mod Stretch
mod Example

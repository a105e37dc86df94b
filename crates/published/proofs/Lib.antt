-- The proofs of what specs/ states. Another crate cites them so: `use Rattle.published.proofs.Adequacy.{adequate}`.
pub mod CostGraph
pub mod Schedules
pub mod Conversion
pub mod FromDerivation
pub mod FromRun
pub mod Deterministic
pub mod Adequacy
pub mod Sequentially
pub mod Theorems
pub mod Stopping
pub mod FromStop
pub mod ValueOrStop
pub mod StopConversion
pub mod Stops

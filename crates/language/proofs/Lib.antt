-- The proofs of what specs/ states. Another crate cites them so: `use Rattle.language.proofs.Claim.{claim}`.
pub mod Places
pub mod Admission
pub mod Unchanged
pub mod Told
pub mod Stops
pub mod Claim
pub mod House
pub mod Values
pub mod Depth
pub mod Settled

-- The proofs of what specs/ states. Another crate cites them so: `use Rattle.graph_answers.proofs.Claim.{claim_lent}`.
pub mod AsFitted
pub mod AsWithout
pub mod Buffer
pub mod Claim
pub mod Reported
pub mod Enough
pub mod Examples

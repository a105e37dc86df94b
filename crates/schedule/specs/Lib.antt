-- What a reader must believe: definitions, and the statements of the theorems. Proofs stand in proofs/.
pub mod Graph
pub mod Algebra
pub mod FrameMachine
pub mod Machine
pub mod Runs
pub mod Homomorphism
pub mod Lockstep
pub mod Demand
pub mod Values
pub mod Depth
pub mod Bounds
pub mod Stretch

-- What a reader must believe: the paper's figures, and the statements of the theorems. Proofs stand in proofs/.
pub mod CostGraph
pub mod Judgments
pub mod Resources
pub mod Adequacy
pub mod Theorems
pub mod Stops
pub mod StopTheorems

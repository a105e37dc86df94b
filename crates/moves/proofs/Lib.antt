-- Laws about the words and the moves.
pub mod FrameKinds
pub mod Nodes
pub mod Frames
pub mod Stacks
pub mod OldestFork
pub mod Promotion
pub mod Sparing
pub mod Advancing
pub mod Steps
pub mod Returning
pub mod Ticking

-- What a reader of this crate must believe: which schedule a machine has, what it leaves in its workspace, and what the call of all three tells. The
-- answers are defined in crate `language`.
pub mod Schedules
pub mod Workspace
pub mod Runs
pub mod Written
pub mod Loop
pub mod AllThree

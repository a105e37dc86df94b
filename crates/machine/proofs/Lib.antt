-- The laws behind the machines: the loop's invariant, and from a run to the three answers.
pub mod Places
pub mod Running
pub mod Tracking
pub mod Looping
pub mod Machines
pub mod Concluding

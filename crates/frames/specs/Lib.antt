-- What the functions of the crate leave in the words and in the locals.
pub mod Frames

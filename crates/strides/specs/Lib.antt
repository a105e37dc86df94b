-- What a stride tells.
pub mod Strides

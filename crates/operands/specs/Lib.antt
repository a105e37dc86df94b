-- Simple operands by their words.
pub mod Operands

-- The registers by one counter, and what they stand for.
pub mod Compact

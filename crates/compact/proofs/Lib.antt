-- Laws about the registers by one counter.
pub mod Keeping

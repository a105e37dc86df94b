-- Laws about strides.
pub mod Rebounding
pub mod Forms
pub mod Calls
pub mod Settling
pub mod Striding
pub mod Striking
pub mod Pausing

pub mod Limits
pub mod Empty
pub mod Ranges

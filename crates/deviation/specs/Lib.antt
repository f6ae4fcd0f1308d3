pub mod Deviation
pub mod Proportions

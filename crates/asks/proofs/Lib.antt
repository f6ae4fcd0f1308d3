pub mod Parts
pub mod Counted
pub mod ExtentEnds

pub mod Values
pub mod Fits
pub mod Codes
pub mod Parts
pub mod Pairs

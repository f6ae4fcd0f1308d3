pub mod Walk
pub mod Numerals

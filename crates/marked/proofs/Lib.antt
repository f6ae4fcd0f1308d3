pub mod Example
pub mod Marked

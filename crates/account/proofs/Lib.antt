pub mod Promised
pub mod Turned
pub mod Underway
pub mod DayEnds

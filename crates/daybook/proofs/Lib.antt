pub mod Within
pub mod Steps
pub mod Carried
pub mod Untouched

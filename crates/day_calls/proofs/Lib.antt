pub mod Reading
pub mod Steps
pub mod Pasted
pub mod Listing

pub mod Joined
pub mod Entries

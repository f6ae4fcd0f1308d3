pub mod Journal
pub mod Carried

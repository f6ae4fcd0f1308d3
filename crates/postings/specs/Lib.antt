pub mod Journal
pub mod Plan

pub mod Limits
pub mod Empty
pub mod Spans
pub mod InRange

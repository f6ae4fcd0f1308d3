pub mod Given
pub mod Rows
pub mod Anywhere
pub mod SpanRows

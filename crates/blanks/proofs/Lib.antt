pub mod Block
pub mod SpanRanges

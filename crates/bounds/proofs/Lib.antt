pub mod Changed
pub mod Anywhere
pub mod Good
pub mod Parts
pub mod Always
pub mod Bounds
pub mod SpanBounds

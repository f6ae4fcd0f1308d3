pub mod Asks
pub mod Extent

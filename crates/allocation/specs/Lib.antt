pub mod Fill
pub mod Allocation
pub mod Blocks

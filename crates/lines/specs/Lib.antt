pub mod Lines
pub mod Cells
pub mod Refusals

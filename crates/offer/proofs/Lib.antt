pub mod Steps
pub mod Blocks
pub mod Prices
pub mod Costs
pub mod Quick

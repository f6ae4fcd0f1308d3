pub mod Hour
pub mod Refusals
pub mod Ranges
pub mod Charge

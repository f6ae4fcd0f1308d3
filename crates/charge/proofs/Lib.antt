pub mod Charge
pub mod Weights
pub mod Laws

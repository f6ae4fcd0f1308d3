pub mod Same
pub mod Offers
pub mod Good
pub mod Laws

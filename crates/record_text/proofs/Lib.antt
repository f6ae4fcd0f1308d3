pub mod Same
pub mod Good
pub mod Laws

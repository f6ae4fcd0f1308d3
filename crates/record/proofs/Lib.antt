pub mod Counted
pub mod Laws

pub mod Ones
pub mod Laws
pub mod Steps

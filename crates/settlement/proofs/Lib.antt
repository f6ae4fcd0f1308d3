pub mod Ready
pub mod Sizes
pub mod Laws
pub mod Taken

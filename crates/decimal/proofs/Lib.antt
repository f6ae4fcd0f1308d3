pub mod Laws
pub mod Signs
pub mod Filled
pub mod Lengths

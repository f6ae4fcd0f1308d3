pub mod Put
pub mod Places
pub mod OwnList
pub mod Called

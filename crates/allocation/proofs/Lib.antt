pub mod Best
pub mod Threshold
pub mod Runs
pub mod Rounds
pub mod Weights
pub mod Turns
pub mod Quick
pub mod Laws

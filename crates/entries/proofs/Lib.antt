pub mod Commitments
pub mod Settled

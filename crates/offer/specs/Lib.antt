pub mod Offer
pub mod Modified

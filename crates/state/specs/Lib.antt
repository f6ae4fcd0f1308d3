pub mod Sizes
pub mod Book
pub mod Ranges
pub mod Numbers

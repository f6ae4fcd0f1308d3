pub mod Table
pub mod Due
pub mod Facts

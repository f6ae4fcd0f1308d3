pub mod Day
pub mod Statement

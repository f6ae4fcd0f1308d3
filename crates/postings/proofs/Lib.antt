pub mod Rows
pub mod Counted
pub mod Totals
pub mod Scan
pub mod Posted
pub mod Appended

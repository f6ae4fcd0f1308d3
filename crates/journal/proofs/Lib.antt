pub mod Scanned
pub mod Passing
pub mod Turning
pub mod Replies
pub mod Listed
pub mod Folded
pub mod WholeText

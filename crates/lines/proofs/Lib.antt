pub mod Reading
pub mod Due
pub mod Numbers
pub mod Cursors
pub mod Shown

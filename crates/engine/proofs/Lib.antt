pub mod Changes
pub mod HourReady
pub mod HourDecided

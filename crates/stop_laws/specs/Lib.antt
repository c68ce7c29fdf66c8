pub mod Stops
pub mod Reopening

pub mod Asking
pub mod Fetching
pub mod Held
pub mod Levels

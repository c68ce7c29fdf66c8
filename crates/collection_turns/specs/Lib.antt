pub mod Turns
pub mod Collecting

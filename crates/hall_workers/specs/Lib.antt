pub mod Serves
pub mod Workers

pub mod BlockGets
pub mod CheckingOut
pub mod Hindrances
pub mod Planning
pub mod SecondLook
pub mod Steps
pub mod Touches
pub mod Writing

pub mod Commands
pub mod Desk
pub mod JobList
pub mod KeptTexts

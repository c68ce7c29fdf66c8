pub mod Directories
pub mod Filled
pub mod Generated
pub mod Leading
pub mod Stopping

pub mod CommandLine
pub mod Lines
pub mod Number
pub mod Spelling

pub mod Calls
pub mod FileRead
pub mod Findings
pub mod Folder
pub mod MemoryFolder
pub mod ScanReport
pub mod WorkingTree

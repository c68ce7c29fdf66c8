pub mod CivilTime
pub mod ConflictFault
pub mod Naming

pub mod Commit
pub mod CommitKey
pub mod Made
pub mod Members
pub mod Proper
pub mod Reading
pub mod Spelling
pub mod Typed

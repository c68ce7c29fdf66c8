pub mod FsIds
pub mod Listing
pub mod Objects
pub mod Traversal
pub mod Unchanged
pub mod Reached

pub mod IndexSpelling
pub mod IndexText
pub mod MergedEntries
pub mod OwnIds
pub mod Reading
pub mod ScanChanges
pub mod Typed

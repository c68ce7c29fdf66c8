pub mod AtOnceLemmas
pub mod DurabilityLemmas
pub mod LibraryFolderLemmas
pub mod PathLemmas
pub mod StandingLemmas
pub mod ToldDiskLemmas
pub mod UnsyncedLemmas

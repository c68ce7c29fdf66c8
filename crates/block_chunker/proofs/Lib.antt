pub mod ChunkBoundariesLemmas
pub mod ChunkListLemmas
pub mod ChunkerLemmas
pub mod LawLemmas
pub mod RollingHashLemmas
pub mod ScanLemmas

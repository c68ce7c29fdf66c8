pub mod ChunkBoundaries
pub mod ChunkerProgress
pub mod RollingHash

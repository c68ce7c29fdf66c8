pub mod CommitLemmas
pub mod CoverLemmas
pub mod LevelLemmas
pub mod RowLemmas
pub mod SendLemmas
pub mod StoreLemmas
pub mod TreeLemmas

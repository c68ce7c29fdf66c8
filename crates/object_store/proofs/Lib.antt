pub mod MapLemmas
pub mod HeldLemmas
pub mod IndexLemmas
pub mod MemoryLemmas
pub mod RefusalLemmas
pub mod StrayLemmas
pub mod ShelfLemmas
pub mod OddLemmas
mod WalkLemmas

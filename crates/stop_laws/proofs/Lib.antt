pub mod SlotLemmas
pub mod DoneLemmas
pub mod RunLemmas
pub mod ReopeningLemmas
pub mod HistoryLemmas

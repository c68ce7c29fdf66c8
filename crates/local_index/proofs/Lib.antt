pub mod EntryListedLemmas
pub mod IndexReadBackLemmas
pub mod MergeLemmas
pub mod TextLemmas

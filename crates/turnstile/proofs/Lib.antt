pub mod ListsLemmas
pub mod RuleLemmas
pub mod DrawLemmas
pub mod TurnLemmas
pub mod EntryLemmas
pub mod PassLemmas

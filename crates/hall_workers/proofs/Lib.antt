pub mod CrossingLemmas
pub mod WorkingLemmas

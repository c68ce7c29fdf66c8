pub mod KeptLemmas
pub mod ListLemmas
pub mod NameTextLemmas
pub mod OrderLemmas

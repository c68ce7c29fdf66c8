pub mod AnswerLemmas
pub mod CheckLemmas
pub mod EachLemmas
pub mod FieldLemmas
pub mod JsonLemmas
pub mod IdLemmas
pub mod FoundLemmas
pub mod WrittenLemmas

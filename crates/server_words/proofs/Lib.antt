pub mod SpellingLemmas
pub mod LocationLemmas
pub mod LibraryWordsLemmas
pub mod NumberLemmas

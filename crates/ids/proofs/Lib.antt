pub mod DigitsLemmas
pub mod BasicLemmas
pub mod FormLemmas
pub mod KeyOrderLemmas
pub mod KindLemmas
pub mod LibraryTextLemmas
pub mod MapLemmas

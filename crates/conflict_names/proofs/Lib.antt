pub mod CivilLemmas
pub mod ExtensionLemmas
pub mod GoodNameLemmas
pub mod NumeralLemmas
pub mod PlainLemmas
pub mod Utf8NameLemmas

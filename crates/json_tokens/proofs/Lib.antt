pub mod ConvertedLemmas
pub mod FrontLemmas
pub mod RestLemmas
pub mod KeptLemmas
pub mod OpeningLemmas
pub mod WholeLemmas

pub mod RetentionLemmas
pub mod StateCheckLemmas
pub mod StateReadBackLemmas
pub mod StateTextLemmas
pub mod SecretLemmas
pub mod TokenLemmas
pub mod StateWrittenLemmas

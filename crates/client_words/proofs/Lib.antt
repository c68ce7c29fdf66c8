mod AddressLemmas
mod JobLemmas
mod JobTextLemmas
mod MatchLemmas
mod ProperWordsLemmas

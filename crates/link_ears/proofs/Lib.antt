pub mod EarLemmas

pub mod CollectingLemmas

-- That candidates stay stored as objects are marked and taken, of collector, where the tests' search finds it.
pub use Rattle.collector.proofs.StoredCandidatesLemmas.{marked_stored, taken_stored}

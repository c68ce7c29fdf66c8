-- Each candidate stays stored, turn by turn.
use Rattle.collector.specs.StoredCandidates.{AreStoredIn}
use Rattle.tree_tests.proofs.collector_tests.swept.Given as goal

abbrev pub invariant-loop-turns : goal.invariant-loop-turns
invariant-loop-turns l = AreStoredIn l.store.index l.marks

-- The keys so far were met.
use Rattle.std.proofs.Common.{◌≡◌, take}
use Rattle.collector.proofs.WorklistLemmas.{met_after}
use Rattle.collector.proofs.worklist.Worklist.meet_all.Given as goal

abbrev pub invariant-loop-key : goal.invariant-loop-key
invariant-loop-key l = l.self ≡ met_after l.fn.self (take l.key-index l.keys)

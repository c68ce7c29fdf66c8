use Rattle.tree_merge.specs.ConflictNaming.{AreKnown}
use Rattle.tree_merge.proofs.conflict_copies.free_place.Given as goal

abbrev pub invariant-loop-number : goal.invariant-loop-number
invariant-loop-number l = AreKnown l.known l.path l.file l.number

-- The ids so far are wanted.
use Rattle.std.proofs.Common.{drop}
use Rattle.tree_push.proofs.WantedLemmas.{IsAddingIds}
use Rattle.tree_push.proofs.wanted.add_blocks.Given as goal

abbrev pub invariant-loop-id : goal.invariant-loop-id
invariant-loop-id l = IsAddingIds l.blocks (drop l.id-index l.blocks) l.fn.wanted l.wanted

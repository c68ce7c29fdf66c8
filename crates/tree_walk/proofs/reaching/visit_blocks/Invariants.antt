-- The rest, met after what was met so far, is all.
use Rattle.std.proofs.Common.{◌≡◌, drop}
use Rattle.tree_walk.specs.Visits.{with_blocks_met}
use Rattle.tree_walk.proofs.reaching.visit_blocks.Given as goal

abbrev pub invariant-loop-block : goal.invariant-loop-block
invariant-loop-block l = with_blocks_met (drop l.block-index l.blocks) l.met ≡ with_blocks_met l.blocks l.fn.met

use Rattle.tree_walk.proofs.VisitLemmas.{nothing_is_met}
use Rattle.tree_walk.proofs.met.Met.new.Goals as goal

pub invariant_of-result : goal.invariant_of-result
invariant_of-result c = nothing_is_met c.new.result c.new-2.result c.new.ensures.value c.new-2.ensures.value

use Rattle.tree_model.proofs.MergedAtLemmas.{nothing_under}
use Rattle.tree_model.proofs.laws.nothing_stands_below_what_does_not_survive.Goals as goal

pub returns : goal.returns
returns c naming s is_naming base head pushed = nothing_under naming is_naming s base head pushed

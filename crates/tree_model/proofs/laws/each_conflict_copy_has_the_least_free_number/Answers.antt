use Rattle.tree_model.proofs.LeastNumberLemmas.{least_free_spot}
use Rattle.tree_model.proofs.laws.each_conflict_copy_has_the_least_free_number.Goals as goal

pub returns : goal.returns
returns c = least_free_spot

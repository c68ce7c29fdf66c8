use Rattle.tree_model.proofs.MergedAtLemmas.{stands_at}
use Rattle.tree_model.proofs.laws.each_conflict_copy_stands_at_its_place.Goals as goal

pub returns : goal.returns
returns c naming s is_naming = stands_at naming is_naming s

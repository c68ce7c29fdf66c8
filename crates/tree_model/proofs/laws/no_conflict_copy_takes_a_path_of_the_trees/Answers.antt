use Rattle.tree_model.proofs.CopyLemmas.{all_free}
use Rattle.tree_model.proofs.laws.no_conflict_copy_takes_a_path_of_the_trees.Goals as goal

pub returns : goal.returns
returns c naming s is_naming = all_free naming is_naming s

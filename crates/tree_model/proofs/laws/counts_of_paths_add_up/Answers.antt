use Rattle.tree_model.proofs.PathCountLemmas.{counts_add_up}
use Rattle.tree_model.proofs.laws.counts_of_paths_add_up.Goals as goal

pub returns : goal.returns
returns c tree is_tree = counts_add_up tree is_tree.no_root

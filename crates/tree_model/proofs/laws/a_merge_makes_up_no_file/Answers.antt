use Rattle.tree_model.proofs.MergedAtLemmas.{from_side}
use Rattle.tree_model.proofs.laws.a_merge_makes_up_no_file.Goals as goal

pub returns : goal.returns
returns c naming s is_naming = from_side naming is_naming s

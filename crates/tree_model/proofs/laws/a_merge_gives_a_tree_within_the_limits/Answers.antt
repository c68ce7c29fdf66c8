use Rattle.tree_model.proofs.ResultTreeLemmas.{merge_fits}
use Rattle.tree_model.proofs.laws.a_merge_gives_a_tree_within_the_limits.Goals as goal

pub returns : goal.returns
returns c naming base head pushed tree is_naming b h p e = merge_fits naming base head pushed tree is_naming b h p e

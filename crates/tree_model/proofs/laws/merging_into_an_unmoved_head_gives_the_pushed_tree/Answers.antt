use Rattle.tree_model.proofs.UnmovedLemmas.{merge_unmoved_head}
use Rattle.tree_model.proofs.laws.merging_into_an_unmoved_head_gives_the_pushed_tree.Goals as goal

pub returns : goal.returns
returns c naming b h p base head pushed alike = merge_unmoved_head naming b h p base head pushed alike

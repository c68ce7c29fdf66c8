use Rattle.tree_model.proofs.UnmovedLemmas.{merge_unchanged_push}
use Rattle.tree_model.proofs.laws.merging_an_unchanged_push_gives_the_head.Goals as goal

pub returns : goal.returns
returns c naming b h p base head pushed alike = merge_unchanged_push naming b h p base pushed head alike

use Rattle.tree_model.proofs.SettledLemmas.{alone_is_head}
use Rattle.tree_model.proofs.laws.a_part_that_pushed_left_alone_is_the_heads.Goals as goal

pub returns : goal.returns
returns c = alone_is_head

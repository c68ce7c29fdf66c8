use Rattle.tree_model.proofs.SettledLemmas.{alone_is_pushed}
use Rattle.tree_model.proofs.laws.a_part_that_pushed_alone_changed_is_pusheds.Goals as goal

pub returns : goal.returns
returns c = alone_is_pushed

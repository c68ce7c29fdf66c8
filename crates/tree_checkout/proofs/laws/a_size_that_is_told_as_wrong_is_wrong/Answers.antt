use Rattle.tree_checkout.proofs.AskLemmas.{missized}
use Rattle.tree_checkout.proofs.laws.a_size_that_is_told_as_wrong_is_wrong.Goals as goal

pub returns : goal.returns
returns c = missized

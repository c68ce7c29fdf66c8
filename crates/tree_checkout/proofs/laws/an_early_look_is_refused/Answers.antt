use Rattle.tree_checkout.proofs.EarlyLookLemmas.{glance_before}
use Rattle.tree_checkout.proofs.laws.an_early_look_is_refused.Goals as goal

pub returns : goal.returns
returns c = glance_before

use Rattle.tree_checkout.proofs.CauseLemmas.{has_of_got, has_of_stopped}
use Rattle.tree_checkout.proofs.laws.what_was_got_for_blocks_was_had.Goals as goal

pub returns : goal.returns
returns c = record { ok = has_of_got; err = has_of_stopped }

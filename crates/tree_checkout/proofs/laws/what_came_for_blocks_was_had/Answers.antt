use Rattle.tree_checkout.proofs.HadLemmas.{got_had, joined_got, stopped_had}
use Rattle.tree_checkout.proofs.laws.what_came_for_blocks_was_had.Goals as goal

pub returns : goal.returns
returns c = record { ok = got_had; err = stopped_had; blocks = joined_got }

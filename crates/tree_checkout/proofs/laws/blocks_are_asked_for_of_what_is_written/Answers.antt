use Rattle.tree_checkout.proofs.AskLemmas.{asked_all, asked_within}
use Rattle.tree_checkout.proofs.laws.blocks_are_asked_for_of_what_is_written.Goals as goal

pub returns : goal.returns
returns c = record { ok = asked_all; err = asked_within }

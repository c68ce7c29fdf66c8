use Rattle.tree_checkout.proofs.HindrancesLemmas.{has_put}
use Rattle.tree_checkout.proofs.hindrances.put.Goals as goal

pub returns : goal.returns
returns c = record { ok = has_put c.args.table.now c.insert.new.self c.args.path c.in_ok-insert.ensures.ok }

use Rattle.tree_checkout.proofs.CauseLemmas.{got_asks, got_ordered, stopped_asks, stopped_ordered}
use Rattle.tree_checkout.proofs.laws.orders_of_a_checkout_are_those_of_a_sync.Goals as goal

pub returns : goal.returns
returns c = record {
  ok = λ source ids more are. (got_asks source ids more are, got_ordered source ids more are);
  err = λ source f more ids stops. (stopped_asks source f more ids stops, stopped_ordered source f more ids stops);
}

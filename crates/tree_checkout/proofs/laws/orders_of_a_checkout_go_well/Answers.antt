use Rattle.tree_checkout.proofs.CauseLemmas.{all_went, got_fresh, ordered_went, stopped_fresh, stopped_well}
use Rattle.tree_checkout.proofs.laws.orders_of_a_checkout_go_well.Goals as goal

pub returns : goal.returns
returns c = record {
  ok = λ source ids more are. (all_went source ids more are, got_fresh source ids more are);
  err = λ source f more ids stops. (stopped_well source f more ids stops, ordered_went source f more ids stops, stopped_fresh source f more ids stops);
}

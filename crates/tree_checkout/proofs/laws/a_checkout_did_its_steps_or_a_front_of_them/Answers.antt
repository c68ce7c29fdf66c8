use Rattle.tree_checkout.proofs.CheckingOutLemmas.{stopped_from}
use Rattle.tree_checkout.proofs.laws.a_checkout_did_its_steps_or_a_front_of_them.Goals as goal

pub returns : goal.returns
returns c = record {
  ok = λ source doomed writes cuts old new before after owns all contents is objects has.
      all.left contents is objects has;
  err = λ source doomed writes scan cuts old new before after f stops contents is objects has.
      stopped_from source doomed writes scan cuts old new before before after f stops contents is objects has;
}

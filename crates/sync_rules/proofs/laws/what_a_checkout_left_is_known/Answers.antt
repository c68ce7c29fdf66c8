use Rattle.sync_rules.proofs.InterruptedCheckoutLemmas.{left_known}
use Rattle.sync_rules.proofs.laws.what_a_checkout_left_is_known.Goals as goal

pub returns : goal.returns
returns c = λ objects cuts contents after index tree root agrees is own holds. left_known objects cuts contents after index tree root agrees is own holds

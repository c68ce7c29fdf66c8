use Rattle.turnstile.proofs.RuleLemmas.{at_home}
use Rattle.turnstile.proofs.laws.the_value_stands_for_the_history_whenever_the_turn_is_free.Goals as goal

pub returns : goal.returns
returns g c = λ k s r free. let h = at_home _ k s r free in (h.0, h.1, h.2)

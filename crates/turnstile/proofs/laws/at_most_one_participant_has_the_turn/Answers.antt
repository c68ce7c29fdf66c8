use Rattle.turnstile.proofs.RuleLemmas.{one_turn}
use Rattle.turnstile.proofs.laws.at_most_one_participant_has_the_turn.Goals as goal

pub returns : goal.returns
returns g c = λ k s r. one_turn _ k s r

use Rattle.turnstile.proofs.PassLemmas.{knows_all}
use Rattle.turnstile.proofs.laws.who_stands_for_all_has_seen_all.Goals as goal

pub returns : goal.returns
returns g c = λ k s r. knows_all _ k s r

use Rattle.turnstile.proofs.PassLemmas.{drew_all}
use Rattle.turnstile.proofs.laws.who_stands_for_all_has_drawn_all.Goals as goal

pub returns : goal.returns
returns g c = λ k s r. drew_all _ k s r

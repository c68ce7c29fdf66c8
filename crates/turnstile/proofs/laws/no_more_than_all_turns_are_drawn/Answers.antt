use Rattle.turnstile.proofs.laws.no_more_than_all_turns_are_drawn.Goals as goal

pub returns : goal.returns
returns g c = λ k s r. (r.turns, r.top)

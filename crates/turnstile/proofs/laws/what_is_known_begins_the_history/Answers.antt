use Rattle.turnstile.proofs.laws.what_is_known_begins_the_history.Goals as goal

pub returns : goal.returns
returns g c = λ k s r i v at. let f = r.each i v at in (f.seen_first, λ turn. (f.turning turn).1)

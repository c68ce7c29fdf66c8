use Rattle.depot.proofs.StandingLemmas.{held_all}
use Rattle.depot.proofs.laws.what_lies_there_is_held_where_nothing_is_stray.Goals as goal

pub returns : goal.returns
returns g c = held_all g.S.Shelf.contents

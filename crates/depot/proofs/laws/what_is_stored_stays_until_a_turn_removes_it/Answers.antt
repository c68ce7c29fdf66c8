use Rattle.depot.proofs.StoryLemmas.{keys_stay}
use Rattle.depot.proofs.laws.what_is_stored_stays_until_a_turn_removes_it.Goals as goal

pub returns : goal.returns
returns g c = keys_stay g.S.Shelf.contents g.S.Shelf.may_give g.S.Shelf.texts g.S.Shelf.faults

use Rattle.depot.proofs.StoryLemmas.{stored_not_missing}
use Rattle.depot.proofs.laws.what_was_answered_as_stored_is_not_missing_until_a_turn_removes_it.Goals as goal

pub returns : goal.returns
returns g c = stored_not_missing g.S.Shelf.contents g.S.Shelf.may_give g.S.Shelf.texts g.S.Shelf.faults

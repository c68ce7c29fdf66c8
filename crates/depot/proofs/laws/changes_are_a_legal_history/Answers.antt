use Rattle.depot.proofs.StoryLemmas.{history_of}
use Rattle.depot.proofs.laws.changes_are_a_legal_history.Goals as goal

pub returns : goal.returns
returns g c = history_of g.S.Shelf.contents g.S.Shelf.may_give g.S.Shelf.texts g.S.Shelf.faults

use Rattle.sync_calls.proofs.FewTurnsLemmas.{few_taken}
use Rattle.sync_calls.proofs.laws.a_collection_through_a_hall_takes_few_turns.Goals as goal

pub returns : goal.returns
returns g c = λ clock. few_taken g.S.Shelf.contents g.S.Shelf.may_give g.S.Shelf.texts g.S.Shelf.faults (g.C.Clock.shows clock)

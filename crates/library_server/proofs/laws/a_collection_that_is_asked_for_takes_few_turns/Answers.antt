use Rattle.library_server.proofs.FewTurnsLemmas.{few_taken, last_taken}
use Rattle.library_server.proofs.laws.a_collection_that_is_asked_for_takes_few_turns.Goals as goal

pub returns : goal.returns
returns g c = record {
  few = λ clock. few_taken g.S.Shelf.contents g.S.Shelf.may_give g.S.Shelf.texts g.S.Shelf.faults (g.C.Clock.shows clock);
  last = λ clock. last_taken g.S.Shelf.contents g.S.Shelf.may_give g.S.Shelf.texts g.S.Shelf.faults (g.C.Clock.shows clock);
}

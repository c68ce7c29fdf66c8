use Rattle.library_server.proofs.CollectedLemmas.{began_needed, left_needed}
use Rattle.library_server.proofs.laws.what_is_left_of_a_collection_that_began_here_is_needed.Goals as goal

pub returns : goal.returns
returns g c = record {
  left = λ clock. left_needed g.S.Shelf.contents g.S.Shelf.may_give g.S.Shelf.texts g.S.Shelf.faults (g.C.Clock.shows clock);
  idle = λ clock. began_needed g.S.Shelf.contents g.S.Shelf.may_give g.S.Shelf.texts g.S.Shelf.faults (g.C.Clock.shows clock);
}

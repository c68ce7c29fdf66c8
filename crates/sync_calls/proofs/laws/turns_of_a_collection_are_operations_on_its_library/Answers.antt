use Rattle.sync_calls.proofs.CollectingLemmas.{lines_taken}
use Rattle.sync_calls.proofs.laws.turns_of_a_collection_are_operations_on_its_library.Goals as goal

pub returns : goal.returns
returns g c = λ clock. lines_taken g.S.Shelf.contents g.S.Shelf.may_give g.S.Shelf.texts g.S.Shelf.faults (g.C.Clock.shows clock)

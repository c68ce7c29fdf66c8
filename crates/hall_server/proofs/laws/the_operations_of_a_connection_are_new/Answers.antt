use Rattle.hall_server.proofs.NewLemmas.{new_ran}
use Rattle.hall_server.proofs.laws.the_operations_of_a_connection_are_new.Goals as goal

pub returns : goal.returns
returns g c = λ clock old new calls ran. new_ran g.S.Shelf.contents g.S.Shelf.may_give g.S.Shelf.texts g.S.Shelf.faults (g.C.Clock.shows clock) old calls new ran

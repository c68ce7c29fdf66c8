use Rattle.hall_server.proofs.TurnsLemmas.{lines_turns}
use Rattle.hall_server.proofs.laws.the_turns_of_a_connection_are_those_of_its_operations.Goals as goal

pub returns : goal.returns
returns g c = λ us vs lines goes library u v was is. lines_turns g.S.Shelf.contents g.S.Shelf.may_give g.S.Shelf.texts g.S.Shelf.faults us goes.all vs goes.leads library u v was is

use Rattle.hall_server.specs.Serving.{hall_rules}
use Rattle.hall_server.proofs.RanLemmas.{leaves_goes}
use Rattle.worker_server.proofs.OperationLemmas.{Answers-leaves}
use Rattle.hall_server.proofs.laws.a_request_leaves_its_operations.Goals as goal

pub returns : goal.returns
returns g c = λ clock old new exchange answers.
    leaves_goes g.S.Shelf.contents g.S.Shelf.may_give g.S.Shelf.texts g.S.Shelf.faults (g.C.Clock.shows clock) old _ new
    (Answers-leaves (hall_rules g.S.Shelf.contents g.S.Shelf.may_give g.S.Shelf.texts g.S.Shelf.faults (g.C.Clock.shows clock)) old exchange new answers)

use Rattle.hall_server.specs.Serving.{hall_rules}
use Rattle.hall_server.proofs.RanLemmas.{leaves_goes}
use Rattle.worker_server.proofs.OperationLemmas.{Run-leaves}
use Rattle.hall_server.proofs.laws.the_operations_of_a_connection_are_those_of_its_requests.Goals as goal

pub returns : goal.returns
returns g c = λ clock old new exchanges run.
    leaves_goes g.S.Shelf.contents g.S.Shelf.may_give g.S.Shelf.texts g.S.Shelf.faults (g.C.Clock.shows clock) old _ new
    (Run-leaves (hall_rules g.S.Shelf.contents g.S.Shelf.may_give g.S.Shelf.texts g.S.Shelf.faults (g.C.Clock.shows clock)) old exchanges new run)

use Rattle.depot.proofs.StandingLemmas.{on_shelf}
use Rattle.depot.proofs.laws.a_shelf_stands_for_its_library.Goals as goal

pub returns : goal.returns
returns g c = on_shelf g.S.Shelf.contents g.S.Shelf.faults

use Rattle.stop_laws.proofs.ReopeningLemmas.{unmade}
use Rattle.stop_laws.proofs.laws.a_refused_making_leaves_no_other_library.Goals as goal

pub returns : goal.returns
returns g c = unmade g.S.Shelf.contents g.S.Shelf.faults

use Rattle.stop_laws.proofs.ReopeningLemmas.{opens_again}
use Rattle.stop_laws.proofs.laws.a_shelf_that_stands_for_a_library_is_opened_as_it.Goals as goal

pub returns : goal.returns
returns g c = λ store held s result none there sound stands opening. opens_again g.S.Shelf.contents g.S.Shelf.faults store held s none there sound stands result opening

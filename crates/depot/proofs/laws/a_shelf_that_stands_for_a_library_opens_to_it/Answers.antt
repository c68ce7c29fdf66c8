use Rattle.depot.proofs.StandingLemmas.{opens}
use Rattle.depot.proofs.laws.a_shelf_that_stands_for_a_library_opens_to_it.Goals as goal

pub returns : goal.returns
returns c = opens

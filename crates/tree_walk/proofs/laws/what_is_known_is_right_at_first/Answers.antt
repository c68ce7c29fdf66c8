use Rattle.tree_walk.proofs.KnownTreesLemmas.{fits_nothing}
use Rattle.tree_walk.proofs.laws.what_is_known_is_right_at_first.Goals as goal

pub returns : goal.returns
returns c = λ objects. fits_nothing objects

use Rattle.tree_walk.proofs.KnownTreesLemmas.{fits_grown}
use Rattle.tree_walk.proofs.laws.what_is_known_stays_right_as_objects_are_added.Goals as goal

pub returns : goal.returns
returns c = λ old new known keeps fits. fits_grown old new known keeps fits

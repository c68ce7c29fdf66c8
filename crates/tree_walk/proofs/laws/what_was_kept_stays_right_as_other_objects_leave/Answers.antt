use Rattle.tree_walk.proofs.KeptTreesLemmas.{fits_left}
use Rattle.tree_walk.proofs.laws.what_was_kept_stays_right_as_other_objects_leave.Goals as goal

pub returns : goal.returns
returns c = λ old new known no_directory no_file stays fits. fits_left old new known fits stays no_directory no_file

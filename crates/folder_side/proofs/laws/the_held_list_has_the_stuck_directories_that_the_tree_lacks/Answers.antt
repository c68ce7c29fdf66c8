use Rattle.folder_side.proofs.LeftLemmas.{held_in_order, held_listed}
use Rattle.folder_side.proofs.laws.the_held_list_has_the_stuck_directories_that_the_tree_lacks.Goals as goal

pub returns-clause-listed : goal.returns-clause-listed
returns-clause-listed c = held_listed

pub returns-clause-ordered : goal.returns-clause-ordered
returns-clause-ordered c = held_in_order

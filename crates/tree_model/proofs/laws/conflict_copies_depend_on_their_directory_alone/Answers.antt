use Rattle.tree_model.proofs.OwnDirectoryLemmas.{own_conflicts}
use Rattle.tree_model.proofs.laws.conflict_copies_depend_on_their_directory_alone.Goals as goal

pub returns : goal.returns
returns c = own_conflicts

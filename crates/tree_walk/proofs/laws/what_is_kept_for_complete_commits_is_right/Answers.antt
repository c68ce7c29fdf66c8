use Rattle.tree_walk.proofs.KeptTreesLemmas.{fits_kept}
use Rattle.tree_walk.proofs.laws.what_is_kept_for_complete_commits_is_right.Goals as goal

pub returns : goal.returns
returns c = λ objects commits keys old new fits keeps complete needed. fits_kept objects commits keys old new fits keeps complete needed

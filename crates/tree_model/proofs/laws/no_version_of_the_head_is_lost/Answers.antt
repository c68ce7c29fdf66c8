use Rattle.tree_model.proofs.NothingLostLemmas.{head_kept}
use Rattle.tree_model.proofs.laws.no_version_of_the_head_is_lost.Goals as goal

pub returns : goal.returns
returns c naming s is_naming head pushed = head_kept naming is_naming s head pushed

use Rattle.tree_model.proofs.NothingLostLemmas.{pushed_kept}
use Rattle.tree_model.proofs.laws.no_pushed_version_is_lost.Goals as goal

pub returns : goal.returns
returns c naming s is_naming head pushed = pushed_kept naming is_naming s head pushed

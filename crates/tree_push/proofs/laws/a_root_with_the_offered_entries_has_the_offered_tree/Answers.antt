use Rattle.tree_push.proofs.OfferedContentLemmas.{offered_root}
use Rattle.tree_push.proofs.laws.a_root_with_the_offered_entries_has_the_offered_tree.Goals as goal

pub returns : goal.returns
returns c = λ objects cuts folder index base had over changed moment user root entries path. offered_root objects cuts folder index base had over moment user changed root entries path

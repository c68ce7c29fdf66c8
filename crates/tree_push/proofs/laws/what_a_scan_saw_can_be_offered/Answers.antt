use Rattle.tree_push.proofs.OfferedContentLemmas.{seen_folder}
use Rattle.tree_push.proofs.laws.what_a_scan_saw_can_be_offered.Goals as goal

pub returns : goal.returns
returns c = λ objects cuts folder index base had over scan is_folder is. seen_folder objects cuts folder index base had over scan is_folder is

use Rattle.sync_rules.proofs.NameLemmas.{own_alike}
use Rattle.sync_rules.proofs.laws.files_with_one_own_id_have_the_same_bytes.Goals as goal

pub returns : goal.returns
returns c = λ objects cuts contents index base had over path other bytes file here there same. own_alike objects cuts contents index base had over path other bytes file here there same

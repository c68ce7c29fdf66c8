use Rattle.sync_rules.proofs.OverLemmas.{over_first, over_later}
use Rattle.sync_rules.proofs.laws.what_a_call_had_its_parts_had.Goals as goal

pub returns : goal.returns
returns c = λ objects cuts contents index base first later over. (over_first objects cuts contents index base first later over, over_later objects cuts contents index base first later over)

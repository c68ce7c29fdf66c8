use Rattle.sync_rules.proofs.GotLemmas.{got_first, got_later}
use Rattle.sync_rules.proofs.laws.what_a_call_got_its_parts_got.Goals as goal

pub returns : goal.returns
returns c = λ objects first later has. (got_first objects first later has, got_later objects first later has)

use Rattle.sync_rules.proofs.ProperLemmas.{left_proper}
use Rattle.sync_rules.proofs.laws.an_index_that_a_sync_left_is_proper.Goals as goal

pub returns : goal.returns
returns c = left_proper

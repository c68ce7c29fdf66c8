use Rattle.sync_rules.proofs.WentLemmas.{went_then}
use Rattle.sync_rules.proofs.laws.orders_go_well_behind_those_that_went_well.Goals as goal

pub returns : goal.returns
returns c = λ first later went goes. went_then first later went goes

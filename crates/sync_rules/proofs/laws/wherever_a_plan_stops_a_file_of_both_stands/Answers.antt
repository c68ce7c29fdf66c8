use Rattle.sync_rules.proofs.StopLemmas.{file_left}
use Rattle.sync_rules.proofs.laws.wherever_a_plan_stops_a_file_of_both_stands.Goals as goal

pub returns : goal.returns
returns c = λ tree old now path bytes file holds was there. file_left tree old now path bytes file holds was there

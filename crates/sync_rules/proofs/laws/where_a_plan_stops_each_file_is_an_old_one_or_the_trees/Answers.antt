use Rattle.sync_rules.proofs.StopLemmas.{file_there}
use Rattle.sync_rules.proofs.laws.where_a_plan_stops_each_file_is_an_old_one_or_the_trees.Goals as goal

pub returns : goal.returns
returns c = λ tree old now path bytes holds here. file_there tree old now path bytes holds here

use Rattle.sync_rules.proofs.PlanLemmas.{plan_leaves}
use Rattle.sync_rules.proofs.laws.a_plan_that_is_done_leaves_the_tree.Goals as goal

pub returns : goal.returns
returns c = λ tree contents alone steps plan. plan_leaves tree contents alone steps plan

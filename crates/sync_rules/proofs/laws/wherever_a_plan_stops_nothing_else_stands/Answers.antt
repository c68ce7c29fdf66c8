use Rattle.sync_rules.proofs.PlanLemmas.{plan_holds}
use Rattle.sync_rules.proofs.laws.wherever_a_plan_stops_nothing_else_stands.Goals as goal

pub returns : goal.returns
returns c = λ tree contents now alone steps plan front path. plan_holds tree contents alone path now steps plan front

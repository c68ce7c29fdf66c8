use Rattle.sync_rules.proofs.StopLemmas.{none_doomed_under}
use Rattle.sync_rules.proofs.laws.a_plan_removes_what_is_under_a_path_before_it.Goals as goal

pub returns : goal.returns
returns c = λ tree contents alone steps plan before later dir path is under doomed. none_doomed_under tree contents alone steps plan before later dir path is under doomed

use Rattle.sync_rules.specs.Causes.{IsSoHere}
use Rattle.tree_checkout.proofs.CauseLemmas.{caused_stop}
use Rattle.tree_checkout.proofs.laws.each_fault_of_a_checkout_has_its_cause.Goals as goal

pub returns : goal.returns
returns c = λ cuts told index whole more source ids f stops quiet. caused_stop (IsSoHere cuts told index whole) source more ids f stops quiet

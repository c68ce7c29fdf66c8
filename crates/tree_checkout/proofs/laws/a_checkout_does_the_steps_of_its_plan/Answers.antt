use Rattle.tree_checkout.proofs.AskLemmas.{planned_looks, planned_paths, planned_steps}
use Rattle.tree_checkout.proofs.laws.a_checkout_does_the_steps_of_its_plan.Goals as goal

pub returns : goal.returns
returns c = record { value = planned_steps; listed = planned_paths; found = planned_looks }

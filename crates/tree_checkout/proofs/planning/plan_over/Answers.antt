use Rattle.std.proofs.Common.{◌∙◌, sym}
use Rattle.tree_checkout.proofs.HeldLemmas.{held_told}
use Rattle.tree_checkout.proofs.PlanLooksLemmas.{looks_scanned}
use Rattle.tree_checkout.proofs.PlanningLemmas.{blocked_told, plan_told}
use Rattle.tree_checkout.proofs.planning.plan_over.Goals as goal

pub returns-in-Some-clause-value : goal.returns-in-Some-clause-value
returns-in-Some-clause-value c = λ cuts c' is objects tree stands.
    sym (blocked_told cuts c' c.args.scan.now is objects c.args.entries.now tree stands) ∙ sym c.in-Ok.ensures.value ∙ c.in-Some.is

pub returns-in-Ok-steps_of-clause-value : goal.returns-in-Ok-steps_of-clause-value
returns-in-Ok-steps_of-clause-value c = λ cuts c' is objects tree stands. (
  sym (blocked_told cuts c' c.args.scan.now is objects c.args.entries.now tree stands) ∙ sym c.in-Ok.ensures.value ∙ c.in-None.is,
  (λ alike. plan_told objects cuts c' c.args.scan.now is c.args.index.now c.args.entries.now c.args.pushed tree stands alike c.in-Ok-steps_of.plan
      c.in-Ok-steps_of.ensures.gone c.in-Ok-steps_of.ensures.written),
  held_told tree c' cuts c.args.scan.now is objects c.args.entries.now stands c.in-Ok-steps_of.plan.held c.in-Ok-steps_of.ensures.held,
)

pub returns-in-Ok-steps_of-clause-same : goal.returns-in-Ok-steps_of-clause-same
returns-in-Ok-steps_of-clause-same c = λ cuts c' is limits.
    looks_scanned cuts c' c.args.scan.now is limits c.args.index.now c.args.entries.now c.args.pushed c.in-Ok-steps_of.plan (sym c.in-Ok.ensures.value ∙ c.in-None.is)
    c.in-Ok-steps_of.ensures.gone c.in-Ok-steps_of.ensures.written

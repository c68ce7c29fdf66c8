-- The search for the merge base ends as it is defined.
use Rattle.std.proofs.Common.{◌∙◌, sym, inl, subst}
use Rattle.library_rules.specs.MergeBase.{base_of}
use Rattle.library_state.specs.declared.refusal.Refusal.TheVariants as refusal
use Rattle.depot.specs.DepotView.{library}
use Rattle.depot.specs.ObjectCalls.{IsToldDamageOf}
use Rattle.depot.specs.declared.update_base.Found.TheVariants as found
use Rattle.depot.proofs.UpdateBaseLemmas.{fault_not_damaged}
use Rattle.depot.proofs.UpdatePlanLemmas.{base_is_kept, found_at, known_base, unknown_fault}
use Rattle.depot.specs.Refusals.{walk_refusal}
use Rattle.depot.proofs.update_plan.plan_unknown.Goals as goal

pub returns-in-Err-clause-damaged : goal.returns-in-Err-clause-damaged
returns-in-Err-clause-damaged g c = λ objects told.
    subst (IsToldDamageOf objects) (sym c.walk_refusal.ensures.value)
    (fault_not_damaged (library c.args.state.now 0 objects) c.args.pushed (walk_refusal c.in-Err.fault)
    (c.in-Err.ensures.value (library c.args.state.now 0 objects) told (sym c.slice.ensures.value)))

pub returns-in-Unrelated-clause-value : goal.returns-in-Unrelated-clause-value
returns-in-Unrelated-clause-value g c = λ objects count told.
    unknown_fault (library c.args.state.now count objects) c.args.moment c.args.user.now c.args.pushed (base_of (library c.args.state.now count objects) c.args.pushed)
    (refusal.Unrelated c.in-Unrelated.steps)
    (inl (found_at objects (base_of (library c.args.state.now count objects) c.args.pushed) c.in-Ok.found (found.Unrelated c.in-Unrelated.steps) c.in-Unrelated.is
    (c.in-Ok.ensures.value (library c.args.state.now count objects) told (sym c.slice.ensures.value))))

pub plan_based-requires-clause-ready : goal.plan_based-requires-clause-ready
plan_based-requires-clause-ready g c = record {
  sound = λ objects count told. c.requires.ready.sound objects count (sym c.in-Ok.ensures.stays.kept.objects ∙ told);
  known = λ objects told. c.requires.ready.known objects (sym c.in-Ok.ensures.stays.kept.objects ∙ told);
  some_kept = c.requires.ready.some_kept;
}

pub plan_based-requires-clause-based : goal.plan_based-requires-clause-based
plan_based-requires-clause-based g c = λ objects told.
    base_is_kept c.args.state.now objects c.args.pushed c.in-At.base
    (found_at objects (base_of (library c.args.state.now 0 objects) c.args.pushed) c.in-Ok.found (found.At c.in-At.base) c.in-At.is
    (c.in-Ok.ensures.value (library c.args.state.now 0 objects) (sym c.in-Ok.ensures.stays.kept.objects ∙ told) (sym c.slice.ensures.value)))

pub returns-clause-known : goal.returns-clause-known
returns-clause-known g c = λ objects told. c.plan_based.ensures.known objects (c.in-Ok.ensures.stays.kept.objects ∙ told)

pub returns-clause-value : goal.returns-clause-value
returns-clause-value g c = λ objects count told.
    known_base (library c.args.state.now count objects) c.args.moment c.args.user.now c.args.pushed (base_of (library c.args.state.now count objects) c.args.pushed) c.in-At.base c.plan_based.result
    (found_at objects (base_of (library c.args.state.now count objects) c.args.pushed) c.in-Ok.found (found.At c.in-At.base) c.in-At.is
    (c.in-Ok.ensures.value (library c.args.state.now count objects) told (sym c.slice.ensures.value)))
    (c.plan_based.ensures.value objects count (c.in-Ok.ensures.stays.kept.objects ∙ told))

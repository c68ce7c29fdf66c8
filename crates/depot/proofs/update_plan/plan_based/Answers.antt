-- The pushed commit is complete; it becomes the head, or is merged.
use Rattle.std.proofs.Common.{◌∙◌, ap, sym}
use Rattle.library_rules.specs.LibraryState.{head_of}
use Rattle.object_graph.specs.Objects.{same_id}
use Rattle.object_graph.specs.Traversal.{walk_commit}
use Rattle.depot.specs.DepotView.{library}
use Rattle.depot.proofs.UpdatePlanLemmas.{are_complete, forwards, merges_due, none_named}
use Rattle.depot.proofs.update_plan.plan_based.Goals as goal

pub returns-then-is_head-clause-value : goal.returns-then-is_head-clause-value
returns-then-is_head-clause-value g c = λ objects count told.
    forwards (library c.args.state.now count objects) c.args.moment c.args.user.now c.args.base c.args.pushed (walk_commit objects c.args.pushed).fault
    (c.in-Ok.ensures.value objects told).0 c.new.result
    (ap (λ kept. same_id c.args.base (head_of kept)) (sym c.slice.ensures.value) ∙ sym c.is_head.ensures.value ∙ c.if-is_head.true) c.new.ensures.value

pub returns-then-is_head-clause-named : goal.returns-then-is_head-clause-named
returns-then-is_head-clause-named g c = none_named c.new.result c.args.pushed c.new.ensures.value

pub plan_merge-requires-clause-complete : goal.plan_merge-requires-clause-complete
plan_merge-requires-clause-complete g c = λ objects told.
    let before = sym c.in-Ok.ensures.stays.kept.objects ∙ told in
    are_complete c.args.state.now objects c.args.base c.args.pushed (c.requires.ready.sound objects 0 before) c.requires.ready.some_kept (c.requires.based objects before)
    (c.in-Ok.ensures.value objects before).0

pub returns-clause-value : goal.returns-clause-value
returns-clause-value g c = λ objects count told.
    merges_due (library c.args.state.now count objects) c.args.moment c.args.user.now c.args.base c.args.pushed (walk_commit objects c.args.pushed).fault
    (c.in-Ok.ensures.value objects told).0 c.plan_merge.result
    (ap (λ kept. same_id c.args.base (head_of kept)) (sym c.slice.ensures.value) ∙ sym c.is_head.ensures.value ∙ c.if-is_head.false)
    (c.plan_merge.ensures.value objects count (c.in-Ok.ensures.stays.kept.objects ∙ told))

pub plan_merge-requires-clause-known : goal.plan_merge-requires-clause-known
plan_merge-requires-clause-known g c = λ objects told. c.in-Ok.ensures.known objects (sym c.in-Ok.ensures.stays.kept.objects ∙ told)

pub returns-clause-known : goal.returns-clause-known
returns-clause-known g c = λ objects told. c.plan_merge.ensures.known objects (c.in-Ok.ensures.stays.kept.objects ∙ told)

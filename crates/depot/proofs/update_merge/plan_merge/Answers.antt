-- The merge of the three trees, planned or refused.
use Rattle.std.proofs.Common.{◌∙◌, ◌≡◌, ap, sym, subst}
use Rattle.library_rules.specs.LibraryState.{head_of}
use Rattle.depot.specs.DepotView.{library}
use Rattle.depot.specs.Answering.{MayRefuseUpdate}
use Rattle.depot.specs.ObjectCalls.{IsToldDamageOf}
use Rattle.depot.specs.UpdatePlan.{MergeRefuses}
use Rattle.depot.proofs.RefusalsLemmas.{none_due, told_damage}
use Rattle.depot.proofs.UpdateBaseLemmas.{told_merge}
use Rattle.depot.proofs.UpdateMergeLemmas.{at_head, merge_damage, merge_may, merge_refuses, merges_so, roots_at, roots_whole}
use Rattle.depot.specs.Refusals.{walk_refusal}
use Rattle.depot.proofs.update_merge.plan_merge.Goals as goal

pub returns-in-Err-clause-value : goal.returns-in-Err-clause-value
returns-in-Err-clause-value g c = λ objects count told.
    let head : c.head_of-head.result ≡ head_of c.args.state.now.kept = c.head_of-head.ensures.value ∙ ap head_of c.slice.ensures.value in
    subst (MergeRefuses (library c.args.state.now count objects) c.args.moment c.args.user.now c.args.base c.args.pushed) (sym c.walk_refusal.ensures.value)
    (told_merge (library c.args.state.now count objects) c.args.moment c.args.user.now c.args.base c.args.pushed (walk_refusal c.in-Err.fault)
    (none_due objects c.in-Err.fault (c.in-Err.ensures.value objects told
    (at_head objects c.args.base c.head_of-head.result (head_of c.args.state.now.kept) c.args.pushed head (c.requires.complete objects told)))))

pub returns-in-Err-clause-damaged : goal.returns-in-Err-clause-damaged
returns-in-Err-clause-damaged g c = λ objects told.
    let head : c.head_of-head.result ≡ head_of c.args.state.now.kept = c.head_of-head.ensures.value ∙ ap head_of c.slice.ensures.value in
    subst (IsToldDamageOf objects) (sym c.walk_refusal.ensures.value)
    (told_damage objects (walk_refusal c.in-Err.fault)
    (none_due objects c.in-Err.fault (c.in-Err.ensures.value objects told
    (at_head objects c.args.base c.head_of-head.result (head_of c.args.state.now.kept) c.args.pushed head (c.requires.complete objects told)))))

pub merge-requires-clause-known : goal.merge-requires-clause-known
merge-requires-clause-known g c = λ objects told. c.requires.known objects (sym c.in-Ok.ensures.stays.kept.objects ∙ told)

pub merge-requires-clause-whole : goal.merge-requires-clause-whole
merge-requires-clause-whole g c = λ objects told.
    let head : c.head_of-head.result ≡ head_of c.args.state.now.kept = c.head_of-head.ensures.value ∙ ap head_of c.slice.ensures.value in
    let before = sym c.in-Ok.ensures.stays.kept.objects ∙ told in
    let complete = c.requires.complete objects before in
    roots_whole objects c.args.base (head_of c.args.state.now.kept) c.args.pushed c.in-Ok.roots complete
    (roots_at objects c.args.base c.head_of-head.result (head_of c.args.state.now.kept) c.args.pushed c.in-Ok.roots head complete (c.in-Ok.ensures.value objects before))

pub returns-in-Err-merge-clause-known : goal.returns-in-Err-merge-clause-known
returns-in-Err-merge-clause-known g c = λ objects told. c.in-Err-merge.ensures.known objects (c.in-Ok.ensures.stays.kept.objects ∙ told)

pub returns-clause-known : goal.returns-clause-known
returns-clause-known g c = λ objects told. c.in-Ok-merge.ensures.known objects (c.in-Ok.ensures.stays.kept.objects ∙ told)

pub returns-in-Err-merge-clause-value : goal.returns-in-Err-merge-clause-value
returns-in-Err-merge-clause-value g c = λ objects count told.
    let head : c.head_of-head.result ≡ head_of c.args.state.now.kept = c.head_of-head.ensures.value ∙ ap head_of c.slice.ensures.value in
    let complete = c.requires.complete objects told in
    subst (MergeRefuses (library c.args.state.now count objects) c.args.moment c.args.user.now c.args.base c.args.pushed) (sym c.merge_refusal.ensures.value)
    (merge_refuses c.args.state.now count objects c.args.moment c.args.user.now c.args.base c.args.pushed c.in-Ok.roots complete
    (roots_at objects c.args.base c.head_of-head.result (head_of c.args.state.now.kept) c.args.pushed c.in-Ok.roots head complete (c.in-Ok.ensures.value objects told))
    c.in-Err-merge.fault (c.in-Err-merge.ensures.value objects (c.in-Ok.ensures.stays.kept.objects ∙ told)))

pub returns-in-Err-merge-clause-damaged : goal.returns-in-Err-merge-clause-damaged
returns-in-Err-merge-clause-damaged g c = λ objects told.
    let head : c.head_of-head.result ≡ head_of c.args.state.now.kept = c.head_of-head.ensures.value ∙ ap head_of c.slice.ensures.value in
    let complete = c.requires.complete objects told in
    subst (IsToldDamageOf objects) (sym c.merge_refusal.ensures.value)
    (merge_damage c.args.state.now 0 objects c.args.moment c.args.user.now c.args.base c.args.pushed c.in-Ok.roots complete
    (roots_at objects c.args.base c.head_of-head.result (head_of c.args.state.now.kept) c.args.pushed c.in-Ok.roots head complete (c.in-Ok.ensures.value objects told))
    c.in-Err-merge.fault (c.in-Err-merge.ensures.value objects (c.in-Ok.ensures.stays.kept.objects ∙ told)))

pub returns-in-Err-merge-clause-cause : goal.returns-in-Err-merge-clause-cause
returns-in-Err-merge-clause-cause g c =
    subst (MayRefuseUpdate c.merge.new.store.index (g.S.Shelf.may_give c.merge.new.store.shelf)) (sym c.merge_refusal.ensures.value)
    (merge_may c.merge.new.store.index (g.S.Shelf.may_give c.merge.new.store.shelf) c.in-Err-merge.fault c.in-Err-merge.ensures.cause c.in-Err-merge.ensures.stays.cause)

pub returns-clause-value : goal.returns-clause-value
returns-clause-value g c = λ objects count told.
    let head : c.head_of-head.result ≡ head_of c.args.state.now.kept = c.head_of-head.ensures.value ∙ ap head_of c.slice.ensures.value in
    let complete = c.requires.complete objects told in
    let mid = c.in-Ok.ensures.stays.kept.objects ∙ told in
    merges_so c.args.state.now count objects c.args.moment c.args.user.now c.args.base c.args.pushed c.in-Ok.roots complete
    (roots_at objects c.args.base c.head_of-head.result (head_of c.args.state.now.kept) c.args.pushed c.in-Ok.roots head complete (c.in-Ok.ensures.value objects told))
    c.in-Ok-merge.merged (c.in-Ok-merge.ensures.value objects mid) c.in-Ok-merge.ensures.named c.plan_merged.result
    (c.plan_merged.ensures.value objects count (c.in-Ok-merge.ensures.stays.kept.objects ∙ mid))

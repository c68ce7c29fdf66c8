-- As prepare_beside where a collection runs; where none does, nothing is listed.
use Rattle.std.proofs.Common.{◌||◌, refl}
use Rattle.std.specs.FinSet as set
use Rattle.object_graph.specs.Traversal.{is_in}
use Rattle.depot.specs.Held.{lacking}
use Rattle.depot.specs.Shields.{keys_made, unstored}
use Rattle.depot.proofs.MayFreshLemmas.{fresh_is, fresh_is_after, made_is, needed_is, none_fresh, none_needed, none_new, shown_is}
use Rattle.depot.proofs.shields.prepare.Goals as goal

pub returns-in-Some-clause-value : goal.returns-in-Some-clause-value
returns-in-Some-clause-value g c = λ objects told whole.
    needed_is c.args.running.now c.in-Some.collection c.in-Some.is objects c.args.before c.args.plan.now c.args.pushed c.prepare_beside.result (c.prepare_beside.ensures.value objects told whole)

pub returns-in-Some-clause-made : goal.returns-in-Some-clause-made
returns-in-Some-clause-made g c =
    made_is c.args.running.now c.in-Some.collection c.in-Some.is (lacking c.args.store.now.index (keys_made c.args.plan.now)) c.prepare_beside.result c.prepare_beside.ensures.made

pub returns-in-Some-clause-ok : goal.returns-in-Some-clause-ok
returns-in-Some-clause-ok g c =
    fresh_is c.args.running.now _ c.in-Some.collection c.prepare_beside.new.running c.in-Some.is refl
    (λ fresh key. set.contains fresh key || is_in (lacking c.args.store.now.index (keys_made c.args.plan.now)) key) c.prepare_beside.result c.prepare_beside.ensures.ok

pub returns-in-Some-clause-shown : goal.returns-in-Some-clause-shown
returns-in-Some-clause-shown g c = λ objects told.
    shown_is c.args.running.now _ c.in-Some.collection c.prepare_beside.new.running c.in-Some.is refl (unstored objects (keys_made c.args.plan.now)) c.prepare_beside.result
    (c.prepare_beside.ensures.shown objects told)

pub returns-in-Some-clause-err : goal.returns-in-Some-clause-err
returns-in-Some-clause-err g c =
    fresh_is_after c.args.running.now _ c.in-Some.collection c.prepare_beside.new.running c.in-Some.is refl (λ fresh key. set.contains fresh key) c.prepare_beside.result
    c.prepare_beside.ensures.err

pub returns-in-None-clause-value : goal.returns-in-None-clause-value
returns-in-None-clause-value g c = λ objects told whole.
    none_needed objects c.args.before c.args.plan.now c.args.pushed c.args.running.now c.new.result c.in-None.is c.new.ensures.value

pub returns-in-None-clause-made : goal.returns-in-None-clause-made
returns-in-None-clause-made g c = none_new (lacking c.args.store.now.index (keys_made c.args.plan.now)) c.args.running.now c.new-in-None.result c.in-None.is c.new-in-None.ensures.value

pub returns-in-None-clause-ok : goal.returns-in-None-clause-ok
returns-in-None-clause-ok g c =
    none_fresh (λ fresh key. set.contains fresh key || is_in (lacking c.args.store.now.index (keys_made c.args.plan.now)) key) c.args.running.now _ c.in-None.is c.in-None.is

pub returns-in-None-clause-shown : goal.returns-in-None-clause-shown
returns-in-None-clause-shown g c = λ objects told. (
  none_new (unstored objects (keys_made c.args.plan.now)) c.args.running.now c.new-in-None.result c.in-None.is c.new-in-None.ensures.value,
  none_fresh (λ fresh key. set.contains fresh key || is_in (unstored objects (keys_made c.args.plan.now)) key) c.args.running.now _ c.in-None.is c.in-None.is,
)

-- Where a collection runs its fresh keys are told; and where none does none is told.
use Rattle.std.proofs.Common.{◌||◌, refl}
use Rattle.std.specs.FinSet as set
use Rattle.object_graph.specs.Traversal.{is_in}
use Rattle.depot.proofs.MayFreshLemmas.{fresh_is, fresh_is_after, new_is, none_fresh, none_new}
use Rattle.depot.proofs.shields.freshen.Goals as goal

pub returns-in-Some-clause-ok : goal.returns-in-Some-clause-ok
returns-in-Some-clause-ok c =
    fresh_is c.args.running.now _ c.in-Some.collection c.freshen.new.self c.in-Some.is refl (λ fresh key. set.contains fresh key || is_in c.args.keys.now key) c.freshen.result c.freshen.ensures.ok

pub returns-in-Some-clause-new : goal.returns-in-Some-clause-new
returns-in-Some-clause-new c = new_is c.args.running.now c.in-Some.collection c.in-Some.is c.args.keys.now c.freshen.result c.freshen.ensures.new

pub returns-in-Some-clause-err : goal.returns-in-Some-clause-err
returns-in-Some-clause-err c =
    fresh_is_after c.args.running.now _ c.in-Some.collection c.freshen.new.self c.in-Some.is refl (λ fresh key. set.contains fresh key) c.freshen.result c.freshen.ensures.err

pub returns-in-None-clause-ok : goal.returns-in-None-clause-ok
returns-in-None-clause-ok c = none_fresh (λ fresh key. set.contains fresh key || is_in c.args.keys.now key) c.args.running.now _ c.in-None.is c.in-None.is

pub returns-in-None-clause-new : goal.returns-in-None-clause-new
returns-in-None-clause-new c = none_new c.args.keys.now c.args.running.now c.new.result c.in-None.is c.new.ensures.value

-- One key more is fresh; where there is no room for it, what became fresh is taken back.
use Rattle.std.proofs.Common.{List, arith, subst, take}
use Rattle.std.proofs.lemmas.List.{take_all}
use Rattle.ids.specs.declared.key.Key.{Key}
use Rattle.depot.proofs.CollectionLemmas.{FreshenedSoFar, so_far_next, so_far_none, so_far_stops}
use Rattle.depot.proofs.collection.Collection.freshen.Goals as goal

pub loop-key-init : goal.loop-key-init
loop-key-init c = so_far_none c.args.self.now c.new-listed.result c.new-listed.ensures.value

pub loop-key-preserved : goal.loop-key-preserved
loop-key-preserved c =
    so_far_next c.args.self.now c.args.keys.now c.loop-key.key-index c.key-item.result c.loop-key-test.true c.key-item.is c.loop-key.self c.freshen_one.new.self c.loop-key.listed
    c.freshen_one.new.listed c.in-Ok.ensures.ok c.loop-key.invariant

pub returns-clause-ok : goal.returns-clause-ok
returns-clause-ok c =
    (subst (λ (keys : List Key). FreshenedSoFar keys c.args.self.now c.loop-key.self c.loop-key.listed) (take_all c.loop-key.key-index c.args.keys.now (omega arith)) c.loop-key.invariant).fresh

pub returns-clause-new : goal.returns-clause-new
returns-clause-new c =
    (subst (λ (keys : List Key). FreshenedSoFar keys c.args.self.now c.loop-key.self c.loop-key.listed) (take_all c.loop-key.key-index c.args.keys.now (omega arith)) c.loop-key.invariant).are_new

pub returns-in-Err-clause-err : goal.returns-in-Err-clause-err
returns-in-Err-clause-err c =
    so_far_stops (take c.loop-key.key-index c.args.keys.now) c.args.self.now c.loop-key.self c.freshen_one.new.self c.stale.new.self c.loop-key.listed c.freshen_one.new.listed c.slice.result.now
    c.slice.ensures.value c.loop-key.invariant c.in-Err.ensures.err c.stale.ensures.value

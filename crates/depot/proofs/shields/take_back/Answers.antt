-- One key more; at the end all.
use Rattle.std.proofs.Common.{◌&&◌, List, arith, is_some, not, subst}
use Rattle.std.specs.FinMap as map
use Rattle.std.specs.FinSet as set
use Rattle.std.proofs.lemmas.List.{take_all}
use Rattle.ids.specs.declared.key.Key.{Key}
use Rattle.library_rules.specs.LibraryState.{is_stored}
use Rattle.object_graph.specs.Traversal.{is_in}
use Rattle.depot.specs.Fresh.{HasFresh}
use Rattle.depot.proofs.CollectionLemmas.{back_next, back_none}
use Rattle.depot.proofs.shields.take_back.Goals as goal

pub loop-key-init : goal.loop-key-init
loop-key-init g c = record {
  index = back_none (λ k. is_some (map.get c.args.store.now.index k)) c.args.running.now;
  held = λ objects told. back_none (is_stored objects) c.args.running.now;
}

pub loop-key-preserved : goal.loop-key-preserved
loop-key-preserved g c = record {
  index = back_next c.args.running.now c.args.keys.now c.loop-key.key-index c.key-item.result c.loop-key-test.true c.key-item.is (λ k. is_some (map.get c.args.store.now.index k)) c.loop-key.running
      c.take_back_one.new.running c.take_back_one.ensures.value c.loop-key.invariant.index;
  held = λ objects told.
      back_next c.args.running.now c.args.keys.now c.loop-key.key-index c.key-item.result c.loop-key-test.true c.key-item.is (is_stored objects) c.loop-key.running c.take_back_one.new.running
      (c.take_back_one.ensures.shown objects told) (c.loop-key.invariant.held objects told);
}

pub returns-clause-shown : goal.returns-clause-shown
returns-clause-shown g c = λ objects told.
    subst (λ (keys : List Key). HasFresh (λ k. set.contains c.args.running.now.running.fresh k && not (is_in keys k && not (is_stored objects k))) c.args.running.now c.loop-key.running)
    (take_all c.loop-key.key-index c.args.keys.now (omega arith)) (c.loop-key.invariant.held objects told)

pub returns-clause-value : goal.returns-clause-value
returns-clause-value g c =
    subst (λ (keys : List Key). HasFresh (λ k. set.contains c.args.running.now.running.fresh k && not (is_in keys k && not (is_some (map.get c.args.store.now.index k)))) c.args.running.now
    c.loop-key.running) (take_all c.loop-key.key-index c.args.keys.now (omega arith)) c.loop-key.invariant.index

-- One key more is taken back; at the end all are.
use Rattle.std.proofs.Common.{◌&&◌, List, arith, not, subst}
use Rattle.std.specs.FinSet as set
use Rattle.std.proofs.lemmas.List.{take_all}
use Rattle.ids.specs.declared.key.Key.{Key}
use Rattle.object_graph.specs.Traversal.{is_in}
use Rattle.depot.specs.Fresh.{HasFresh}
use Rattle.depot.proofs.CollectionLemmas.{stale_next, stale_none}
use Rattle.depot.proofs.collection.Collection.stale.Goals as goal

pub loop-key-init : goal.loop-key-init
loop-key-init c = stale_none c.args.self.now

pub loop-key-preserved : goal.loop-key-preserved
loop-key-preserved c =
    stale_next c.args.self.now c.args.keys.now c.loop-key.key-index c.key-item.result c.loop-key-test.true c.key-item.is c.loop-key.self c.stale_one.new.self
    c.stale_one.ensures.value c.loop-key.invariant

pub returns : goal.returns
returns c = record {
  value = subst (λ (keys : List Key). HasFresh (λ k. set.contains c.args.self.now.running.fresh k && not (is_in keys k)) c.args.self.now c.loop-key.self)
      (take_all c.loop-key.key-index c.args.keys.now (omega arith)) c.loop-key.invariant;
}

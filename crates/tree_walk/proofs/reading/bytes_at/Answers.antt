-- What the store refuses: a stored object that is damaged, or a failure of the shelf.
use Rattle.std.proofs.Common.{sym, subst}
use Rattle.std.specs.FinMap as map
use Rattle.object_store.specs.Store.{IsOfStored}
use Rattle.object_store.specs.StoreView.{Index}
use Rattle.tree_walk.specs.Reading.{stored_at}
use Rattle.tree_walk.proofs.ReadsLemmas.{read_stops, store_cause, store_damage, store_due, store_of}
use Rattle.tree_walk.proofs.reading.bytes_at.Goals as goal

pub returns-in-Err-clause-value : goal.returns-in-Err-clause-value
returns-in-Err-clause-value g c = λ objects told.
    read_stops objects (stored_at objects c.args.key.now) c.in-Err.fault
    (store_due objects c.args.key.now (g.S.Shelf.may_give c.get.new.self.shelf) c.in-Err.fault c.in-Err.ensures.damaged (c.in-Err.ensures.refused objects told))

pub returns-in-Err-clause-of_key : goal.returns-in-Err-clause-of_key
returns-in-Err-clause-of_key g c = store_of c.args.key.now (g.S.Shelf.may_give c.get.new.self.shelf) c.in-Err.fault c.in-Err.ensures.damaged

pub returns-in-Err-clause-damaged : goal.returns-in-Err-clause-damaged
returns-in-Err-clause-damaged g c = λ objects told. store_damage objects c.args.key.now c.in-Err.fault (c.in-Err.ensures.refused objects told)

pub returns-in-Err-clause-stays : goal.returns-in-Err-clause-stays
returns-in-Err-clause-stays g c = record {
  kept = c.in-Err.ensures.stays;
  shelf = c.in-Err.ensures.shelf;
  cause = store_cause c.get.new.self.index c.args.key.now (g.S.Shelf.may_give c.get.new.self.shelf) c.in-Err.fault
      (subst (λ (i : Index). IsOfStored (map.get i c.args.key.now) c.args.key.now c.in-Err.fault) (sym c.in-Err.ensures.stays.index) c.in-Err.ensures.stored)
      c.in-Err.ensures.damaged;
  count = c.in-Err.ensures.faults;
}

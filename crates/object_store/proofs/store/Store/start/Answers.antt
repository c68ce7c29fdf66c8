-- A store that was started holds all that lies on the shelf.
use Rattle.object_store.proofs.IndexLemmas.{whole-index}
use Rattle.object_store.proofs.store.Store.start.Goals as goal

pub returns-in-Ok-clause-ok : goal.returns-in-Ok-clause-ok
returns-in-Ok-clause-ok g c = record {
  shelf = c.read_index.ensures.stays;
  objects = rw c.read_index.ensures.stays
      (whole-index (g.S.Shelf.contents c.args.shelf) c.in-Ok.index (λ held told. c.in-Ok.ensures.value held told));
}

-- The index has the keys of what is held.
use Rattle.object_store.proofs.HeldLemmas.{sizes}
use Rattle.object_store.proofs.IndexLemmas.{next-held}
use Rattle.object_store.proofs.store.Store.after.Goals as goal

pub returns-clause-found : goal.returns-clause-found
returns-clause-found g c objects told =
    next-held objects c.self.inside.index
    (sizes (g.S.Shelf.contents c.self.inside.shelf) c.self.inside.index c.self.invariant objects (rw (← c.self.view_is) at told))
    c.args.key c.next.result c.next.ensures.value

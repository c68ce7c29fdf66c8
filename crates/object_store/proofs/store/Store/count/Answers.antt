-- The index has as many keys as what is held.
use Rattle.std.proofs.Common.{length, ◌∙◌}
use Rattle.object_store.proofs.HeldLemmas.{sizes}
use Rattle.object_store.proofs.MapLemmas.{len-alike}
use Rattle.object_store.proofs.store.Store.count.Goals as goal

pub returns-clause-found : goal.returns-clause-found
returns-clause-found g c objects told =
    c.len.ensures.value
    ∙ len-alike length c.self.inside.index objects
    (sizes (g.S.Shelf.contents c.self.inside.shelf) c.self.inside.index c.self.invariant objects (rw (← c.self.view_is) at told))

-- The index tells the size of what is held.
use Rattle.std.proofs.Common.{◌∙◌}
use Rattle.object_store.proofs.HeldLemmas.{sizes}
use Rattle.object_store.proofs.store.Store.has.Goals as goal

pub returns-in-Some-clause-found : goal.returns-in-Some-clause-found
returns-in-Some-clause-found g c objects told =
    c.in-Some.ensures.value
    ∙ sizes (g.S.Shelf.contents c.self.inside.shelf) c.self.inside.index c.self.invariant objects (rw (← c.self.view_is) at told) c.args.key

pub returns-in-None-clause-found : goal.returns-in-None-clause-found
returns-in-None-clause-found g c objects told =
    c.in-None.ensures.value
    ∙ sizes (g.S.Shelf.contents c.self.inside.shelf) c.self.inside.index c.self.invariant objects (rw (← c.self.view_is) at told) c.args.key

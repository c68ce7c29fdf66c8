-- The index has the keys of what is held.
use Rattle.std.proofs.Common.{◌∙◌}
use Rattle.std.proofs.lemmas.Result.{IfOk-weaker}
use Rattle.object_store.proofs.HeldLemmas.{sizes}
use Rattle.object_store.proofs.IndexLemmas.{stands}
use Rattle.object_store.proofs.store.Store.keys.Goals as goal

pub returns-clause-found : goal.returns-clause-found
returns-clause-found g c objects told =
    IfOk-weaker c.keys.result _ _ (λ keys each key.
    each key
    ∙ stands objects c.self.inside.index
    (sizes (g.S.Shelf.contents c.self.inside.shelf) c.self.inside.index c.self.invariant objects (rw (← c.self.view_is) at told)) key) c.keys.ensures.value

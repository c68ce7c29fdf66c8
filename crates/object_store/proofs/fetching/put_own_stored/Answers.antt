-- The bytes are those that are lent.
use Rattle.std.proofs.Common.{ℕ, List, subst}
use Rattle.object_store.specs.Steps.{PutsStored}
use Rattle.object_store.proofs.fetching.put_own_stored.Goals as goal

pub returns-clause-value : goal.returns-clause-value
returns-clause-value g c =
    subst (λ (bytes : List ℕ). PutsStored (g.S.Shelf.may_give c.put_stored.new.shelf) c.args.key.now bytes c.put_stored.result) c.slice.ensures.value
    c.put_stored.ensures.value

-- A fault of the store.
use Rattle.std.proofs.Common.{sym, subst, Err}
use Rattle.depot.specs.ObjectCalls.{IsToldDamageOf}
use Rattle.depot.specs.UpdateMerge.{StoredSo}
use Rattle.depot.proofs.UpdateMadeLemmas.{get_damage, get_refused}
use Rattle.depot.proofs.update_made.is_stored.Goals as goal

pub returns-clause-value : goal.returns-clause-value
returns-clause-value g c = λ objects told.
    subst (λ why. StoredSo objects c.args.id.now c.args.text.now (Err why)) (sym c.store_refusal.ensures.value)
    (get_refused objects c.args.id.now c.args.text.now (g.S.Shelf.may_give c.get.new.self.shelf) c.in-Err.fault c.in-Err.ensures.damaged (c.in-Err.ensures.refused objects told))

pub returns-clause-damaged : goal.returns-clause-damaged
returns-clause-damaged g c = λ objects told.
    subst (IsToldDamageOf objects) (sym c.store_refusal.ensures.value)
    (get_damage objects c.args.id.now (g.S.Shelf.may_give c.get.new.self.shelf) c.in-Err.fault c.in-Err.ensures.damaged (c.in-Err.ensures.refused objects told))

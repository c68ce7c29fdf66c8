-- A key that is out of the index needs nothing on the shelf.
use Rattle.std.proofs.Common.{refl}
use Rattle.object_store.proofs.HeldLemmas.{ready-given_up, ready-kept, ready-removed}
use Rattle.object_store.specs.Shelf.{removed_known}
use Rattle.object_store.specs.declared.shelf.Slot.TheVariants.{Object}
use Rattle.object_store.proofs.changing.remove_object.Goals as goal

pub returns-in-Ok-clause-ready : goal.returns-in-Ok-clause-ready
returns-in-Ok-clause-ready g c =
    rw c.remove-in-Ok.ensures.stays
    (ready-kept (removed_known (g.S.Shelf.contents c.args.shelf.now) (Object c.args.key.now)) (g.S.Shelf.contents c.remove.new.self) _
    c.in-Ok.ensures.ok (ready-removed (g.S.Shelf.contents c.args.shelf.now) c.args.index.now c.args.key.now c.requires.ready))

pub returns-in-Err-Shelf-clause-ready : goal.returns-in-Err-Shelf-clause-ready
returns-in-Err-Shelf-clause-ready g c =
    let change = rw c.in-Err-Shelf.field-0-is at c.in-Err-Shelf.ensures.ok in
    rw c.remove-in-Err-Shelf.ensures.stays
    (ready-given_up (g.S.Shelf.contents c.args.shelf.now) (g.S.Shelf.contents c.remove.new.self) c.args.index.now c.args.key.now change c.requires.ready)

pub returns-in-Err-NoMemory-clause-untouched : goal.returns-in-Err-NoMemory-clause-untouched
returns-in-Err-NoMemory-clause-untouched g c = λ _. (rw c.in-Err-NoMemory.field-0-is at c.in-Err-NoMemory.ensures.untouched) refl

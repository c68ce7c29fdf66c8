-- The index has room before the shelf is asked, and forgets the key where the shelf refuses it.
use Rattle.std.proofs.Common.{ap, ◌∙◌, length}
use Rattle.std.specs.FinMap as map
use Rattle.object_store.proofs.HeldLemmas.{failed-both, ready-failed, ready-kept, ready-put}
use Rattle.object_store.proofs.MapLemmas.{put_back}
use Rattle.object_store.specs.Shelf.{put_known}
use Rattle.object_store.specs.declared.shelf.Slot.TheVariants.{Object}
use Rattle.object_store.proofs.changing.put_own_new.Goals as goal

pub returns-in-Ok-put_own-clause-ready : goal.returns-in-Ok-put_own-clause-ready
returns-in-Ok-put_own-clause-ready g c =
    rw c.in-Ok.ensures.ok
    (ready-kept (put_known (g.S.Shelf.contents c.args.shelf.now) (Object c.args.key.now) c.args.bytes) (g.S.Shelf.contents c.put_own.new.self) _
    c.in-Ok-put_own.ensures.ok (ready-put (g.S.Shelf.contents c.args.shelf.now) c.args.index.now c.args.key.now c.args.bytes c.requires.ready))

pub returns-in-Err-put_own-clause-ready : goal.returns-in-Err-put_own-clause-ready
returns-in-Err-put_own-clause-ready g c =
    let left = c.remove.ensures.stays ∙ ap (λ m. map.remove m c.args.key.now) c.in-Ok.ensures.ok
    ∙ put_back c.args.index.now c.args.key.now (length c.args.bytes) c.requires.absent in
    rw left
    (ready-failed c.in-Err-put_own.failed (g.S.Shelf.contents c.args.shelf.now) (g.S.Shelf.contents c.put_own.new.self) c.args.index.now c.args.key.now c.args.bytes
    c.in-Err-put_own.ensures.ok c.requires.absent c.requires.ready)

pub returns-in-Err-put_own-clause-value : goal.returns-in-Err-put_own-clause-value
returns-in-Err-put_own-clause-value g c =
    let left = c.remove.ensures.stays ∙ ap (λ m. map.remove m c.args.key.now) c.in-Ok.ensures.ok
    ∙ put_back c.args.index.now c.args.key.now (length c.args.bytes) c.requires.absent in
    rw c.fault_of.ensures.value
    (failed-both c.in-Err-put_own.failed c.args.index.now (map.insert c.args.index.now c.args.key.now (length c.args.bytes)) c.remove.new.self
    (g.S.Shelf.contents c.args.shelf.now) (put_known (g.S.Shelf.contents c.args.shelf.now) (Object c.args.key.now) c.args.bytes) (g.S.Shelf.contents c.put_own.new.self)
    left c.in-Err-put_own.ensures.ok)

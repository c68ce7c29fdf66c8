-- The index has room before the shelf is asked, and forgets the key where the shelf refuses it.
use Rattle.std.proofs.Common.{ap, ◌∙◌, length}
use Rattle.std.specs.FinMap as map
use Rattle.object_store.proofs.HeldLemmas.{failed-both, ready-failed, ready-kept, ready-put}
use Rattle.object_store.proofs.MapLemmas.{put_back}
use Rattle.object_store.specs.Shelf.{put_known}
use Rattle.object_store.specs.declared.shelf.Slot.TheVariants.{Object}
use Rattle.object_store.proofs.changing.put_new.Goals as goal

pub returns-in-Ok-put-clause-ready : goal.returns-in-Ok-put-clause-ready
returns-in-Ok-put-clause-ready g c =
    rw c.in-Ok.ensures.ok
    (ready-kept (put_known (g.S.Shelf.contents c.args.shelf.now) (Object c.args.key.now) c.args.bytes.now) (g.S.Shelf.contents c.put.new.self) _
    c.in-Ok-put.ensures.ok (ready-put (g.S.Shelf.contents c.args.shelf.now) c.args.index.now c.args.key.now c.args.bytes.now c.requires.ready))

pub returns-in-Err-put-clause-ready : goal.returns-in-Err-put-clause-ready
returns-in-Err-put-clause-ready g c =
    let left = c.remove.ensures.stays ∙ ap (λ m. map.remove m c.args.key.now) c.in-Ok.ensures.ok
    ∙ put_back c.args.index.now c.args.key.now (length c.args.bytes.now) c.requires.absent in
    rw left
    (ready-failed c.in-Err-put.failed (g.S.Shelf.contents c.args.shelf.now) (g.S.Shelf.contents c.put.new.self) c.args.index.now c.args.key.now c.args.bytes.now
    c.in-Err-put.ensures.ok c.requires.absent c.requires.ready)

pub returns-in-Err-put-clause-value : goal.returns-in-Err-put-clause-value
returns-in-Err-put-clause-value g c =
    let left = c.remove.ensures.stays ∙ ap (λ m. map.remove m c.args.key.now) c.in-Ok.ensures.ok
    ∙ put_back c.args.index.now c.args.key.now (length c.args.bytes.now) c.requires.absent in
    rw c.fault_of.ensures.value
    (failed-both c.in-Err-put.failed c.args.index.now (map.insert c.args.index.now c.args.key.now (length c.args.bytes.now)) c.remove.new.self
    (g.S.Shelf.contents c.args.shelf.now) (put_known (g.S.Shelf.contents c.args.shelf.now) (Object c.args.key.now) c.args.bytes.now) (g.S.Shelf.contents c.put.new.self)
    left c.in-Err-put.ensures.ok)

-- What lies there after a put is the old or the new.
use Rattle.object_store.proofs.ShelfLemmas.{tells_put}
use Rattle.object_store.proofs.fuse_shelf.FuseShelfShelf.put.Goals as goal

pub returns-clause-gives : goal.returns-clause-gives
returns-clause-gives c =
    rw (← c.self.view_is)
    (tells_put _ c.put_through.new.self.inner.contents c.args.slot c.args.bytes.now c.put_through.result c.put_through.ensures.ok)

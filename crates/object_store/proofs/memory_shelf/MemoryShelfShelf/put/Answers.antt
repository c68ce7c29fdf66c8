-- What lies there after a put is the old or the new.
use Rattle.object_store.proofs.ShelfLemmas.{answers_put}
use Rattle.object_store.proofs.memory_shelf.MemoryShelfShelf.put.Goals as goal

pub returns-clause-gives : goal.returns-clause-gives
returns-clause-gives c =
    rw (← c.self.view_is) (answers_put _ c.put_bytes.new.self c.args.slot c.args.bytes.now c.put_bytes.result c.put_bytes.ensures.value)

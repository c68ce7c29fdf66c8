-- What lies there after a put is the old or the new.
use Rattle.object_store.proofs.ShelfLemmas.{answers_put}
use Rattle.object_store.proofs.memory_shelf.MemoryShelfShelf.put_own.Goals as goal

pub returns-clause-gives : goal.returns-clause-gives
returns-clause-gives c =
    rw (← c.self.view_is) (answers_put _ c.keep_bytes.new.self c.args.slot c.args.bytes c.keep_bytes.result c.keep_bytes.ensures.value)

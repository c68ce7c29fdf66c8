-- An empty table has no id.
use Rattle.object_store.proofs.MemoryLemmas.{ids-empty}
use Rattle.object_store.proofs.memory_shelf.MemoryShelf.new.Goals as goal

pub invariant_of-result : goal.invariant_of-result
invariant_of-result c = ids-empty c.new.result c.new.ensures.value

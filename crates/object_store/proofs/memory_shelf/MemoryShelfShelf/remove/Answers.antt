-- What lies there after a removal is the old, or nothing.
use Rattle.object_store.proofs.ShelfLemmas.{answers_removed, answers_unremoved}
use Rattle.object_store.proofs.memory_shelf.MemoryShelfShelf.remove.Goals as goal

pub returns-clause-gives : goal.returns-clause-gives
returns-clause-gives c = answers_removed c.args.self.now c.empty_slot.new.self c.args.slot c.empty_slot.result c.empty_slot.ensures.value

pub returns-clause-untouched : goal.returns-clause-untouched
returns-clause-untouched c = answers_unremoved c.args.self.now c.empty_slot.new.self c.args.slot c.empty_slot.result c.empty_slot.ensures.value

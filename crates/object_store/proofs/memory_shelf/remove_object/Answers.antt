-- What is left has its ids.
use Rattle.object_store.proofs.MemoryLemmas.{ids-remove}
use Rattle.object_store.proofs.memory_shelf.remove_object.Goals as goal

pub returns-clause-ids : goal.returns-clause-ids
returns-clause-ids c = rw c.remove.ensures.stays (ids-remove c.args.objects.now c.args.key.now c.requires.ids)

-- The least key past the cursor is the next of the kind, or tells that there is none.
use Rattle.object_store.proofs.MemoryLemmas.{next-found, none-found}
use Rattle.object_store.proofs.memory_shelf.found_above.Goals as goal

pub returns-in-Some : goal.returns-in-Some
returns-in-Some c = record {
  value = next-found c.args.objects.now c.args.kind c.args.after c.requires.ids c.in-Some.key c.in-Some.ensures.value c.found_at.result c.found_at.ensures.value;
}

pub returns-in-None : goal.returns-in-None
returns-in-None c = record { value = none-found c.args.objects.now c.args.kind c.args.after c.requires.ids c.in-None.ensures.value }

-- The first key, or the next above it.
use Rattle.std.proofs.Common.{sym, ◌∙◌}
use Rattle.object_store.proofs.MemoryLemmas.{first-itself, least-from}
use Rattle.object_store.proofs.memory_shelf.least_from.Goals as goal

pub returns-then-has : goal.returns-then-has
returns-then-has c = record { value = first-itself c.args.objects.now c.args.first.now (sym c.has.ensures.value ∙ c.if-has.true) }

pub returns-else-has : goal.returns-else-has
returns-else-has c = record {
  value = least-from c.args.objects.now c.args.first.now c.next.result (sym c.has.ensures.value ∙ c.if-has.false) c.next.ensures.value;
}

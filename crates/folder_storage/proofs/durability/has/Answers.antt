use Rattle.std.proofs.Common.{subst, sym}
use Rattle.folder_storage.specs.Durability.{In}
use Rattle.folder_storage.proofs.DurabilityLemmas.{In-at}
use Rattle.folder_storage.proofs.durability.has.Goals as goal

pub returns-then-is_same : goal.returns-then-is_same
returns-then-is_same c = record {
  found = λ holds. subst (λ p. In p c.args.directories.now) (sym (c.if-is_same.ensures.value holds)) (In-at c.args.directories.now c.loop-other.other-index _ c.loop-other-test.true);
}

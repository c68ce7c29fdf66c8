use Rattle.std.proofs.Common.{[], List, ℕ, Option, refl, sym, subst}
use Rattle.tree_merge.specs.Level.{Tells}
use Rattle.tree_merge.specs.Opening.{dirents_if}
use Rattle.tree_merge.proofs.LevelLemmas.{tells_nothing}
use Rattle.tree_merge.proofs.opening.entries_of.Goals as goal

pub returns-in-None-clause-value : goal.returns-in-None-clause-value
returns-in-None-clause-value g c objects told directory = (
  refl,
  subst (λ (o : Option (List ℕ)). Tells c.args.path.now (dirents_if objects o) c.new.result) (sym c.in-None.is)
      (tells_nothing c.args.path.now [] c.new.result refl c.new.ensures.value),
)

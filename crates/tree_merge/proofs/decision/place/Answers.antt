use Rattle.std.proofs.Common.{refl, sym, subst}
use Rattle.tree_merge.specs.FileChoice.{IsWholeIf}
use Rattle.tree_merge.proofs.decision.place.Goals as goal

pub returns-clause-value : goal.returns-clause-value
returns-clause-value g c objects told compared more keeps whole =
    let chosen = c.in_ok-chosen.ensures.value objects told compared more keeps
    (subst (IsWholeIf objects) (sym c.file_in.ensures.value) whole.0)
    (subst (IsWholeIf objects) (sym c.file_in-2.ensures.value) whole.1)
    (subst (IsWholeIf objects) (sym c.file_in-3.ensures.value) whole.2) in (
      refl,
      rw (← c.is_kept.ensures.value, ← c.file_in.ensures.value, ← c.file_in-2.ensures.value, ← c.file_in-3.ensures.value)
          (c.placing_of.ensures.value more _ chosen.1),
    )

pub returns-clause-whole : goal.returns-clause-whole
returns-clause-whole g c objects whole =
    let chosen = c.in_ok-chosen.ensures.whole objects
    (subst (IsWholeIf objects) (sym c.file_in.ensures.value) whole.0)
    (subst (IsWholeIf objects) (sym c.file_in-2.ensures.value) whole.1)
    (subst (IsWholeIf objects) (sym c.file_in-3.ensures.value) whole.2) in
    c.placing_of.ensures.whole objects chosen.0 chosen.1

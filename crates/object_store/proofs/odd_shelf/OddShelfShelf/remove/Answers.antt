-- A removal ends the odd bytes of its own slot alone.
use Rattle.std.proofs.Common.{refl, sym, ◌∙◌, true≢false}
use Rattle.object_store.proofs.OddLemmas.{odd_removed_by, odd_unremoved}
use Rattle.object_store.proofs.odd_shelf.OddShelfShelf.remove.Goals as goal
use Rattle.object_store.proofs.odd_shelf.OddShelfShelf.remove.Goals.{in-Some-1, in-None-1}

pub returns-then-here-clause-gives : goal.returns-then-here-clause-gives
returns-then-here-clause-gives c =
    let same = c.is_same-here.ensures.value.0 c.if-here.true in
    elim c.match-self.branch [
      | in-Some-1 w ↦ rw (w.self-is, ← c.self.view_is) (odd_removed_by _ _ c.args.slot c.in-Ok.field-0 c.in-Ok.ensures.value (refl, ((λ is. refl), (λ other. absurd (other same)))))
      | in-None-1 w ↦ rw (w.self-is, ← c.self.view_is) (odd_removed_by _ _ c.args.slot c.in-Ok.field-0 c.in-Ok.ensures.value (refl, ((λ is. refl), (λ other. absurd (other same)))))
    ]

pub returns-else-here-clause-gives : goal.returns-else-here-clause-gives
returns-else-here-clause-gives c =
    rw (← c.self.view_is)
    (odd_removed_by _ _ c.args.slot c.in-Ok.field-0 c.in-Ok.ensures.value (refl, ((λ is. absurd (true≢false (sym (c.is_same-here.ensures.value.1 is) ∙ c.if-here.false))), (λ other. refl))))

pub returns-in-Err-clause-untouched : goal.returns-in-Err-clause-untouched
returns-in-Err-clause-untouched c = rw (← c.self.view_is) (odd_unremoved _ _ c.args.slot c.in-Err.failed c.in-Err.ensures.value (record { slot = refl; odd = refl }))

-- What is shown of each library later on a connection: its history goes on. The key lemmas are lines_on and on_later.
use Rattle.std.proofs.Common.{◌≡◌, inl, inr, ℕ, zero, suc, List, [], ◌∷◌, ◌++◌, Option, None, Some, refl, subst, sym, ◌∙◌}
use Rattle.std.specs.List.{slice_get}
use mathlib.Core.List.{IsPrefix}
use Rattle.object_store.specs.Shelf.{Contents}
use Rattle.object_store.specs.declared.shelf.Slot.{Slot}
use Rattle.depot.specs.DepotView.{DepotView}
use Rattle.depot.specs.declared.story.Change.{Change}
use Rattle.turnstile.proofs.ListsLemmas.{prefix_refl, prefix_trans}
use Rattle.sync_calls.specs.Operations.{Line, Lines, Moves}
use Rattle.sync_calls.specs.Shown.{Shown, library_after, library_at}
use Rattle.hall_server.proofs.GoingLemmas.{done_grows, done_start, set_there}

pub none_some : {A : Type 0} (a : A) → None ≡ Some a → ⊥
none_some a e = cc

-- what stands after so many changes stands so where more follow
pub after_some : {V : Type 0} (start : Option V) (cs more : List (Change V)) (n : ℕ) (d : V) → library_after start cs n ≡ Some d → library_after start (cs ++ more) n ≡ Some d
after_some start cs more zero d is = is
after_some start [] more (suc n) d is = absurd (none_some d is)
after_some start (c ∷ cs) more (suc n) d is = after_some (Some c.after.value) cs more n d is

-- what is shown of a library later
pub record GoesOn {S : Type 0} (u v : Shown S) : Type 0 where
  pub begun : v.start ≡ u.start
  pub grows : IsPrefix u.seen v.seen

-- a library at a place of it stands there still
pub on_later : {S : Type 0} (u v : Shown S) → GoesOn u v → (place : ℕ) (d : DepotView S) → library_at u place ≡ Some d → library_at v place ≡ Some d
on_later {S} u v on place d is =
    subst (λ (cs : List (Change (DepotView S))). library_after v.start cs place ≡ Some d) on.grows.1
    (after_some v.start u.seen on.grows.0 place d (subst (λ (o : Option (DepotView S)). library_after o u.seen place ≡ Some d) (sym on.begun) is))

module _ {S : Type 0} (contents : S → Option Contents) (may_give : S → Slot → Option (List ℕ) → Type 0) (texts faults : S → ℕ) where
  moved_on : (us : List (Shown S)) (line : Line) (vs : List (Shown S)) → Moves contents may_give texts faults us line vs → (j : ℕ) (u : Shown S) → slice_get us j ≡ Some u
      → (v : Shown S) × (slice_get vs j ≡ Some v) × GoesOn u v
  moved_on us line vs moves j u at =
      subst (λ (ws : List (Shown S)). (v : Shown S) × (slice_get ws j ≡ Some v) × GoesOn u v) (sym moves.is)
      (elim (set_there us line.library moves.after moves.before j u moves.was at) [
        | inl here ↦ (
          moves.after,
          here.1,
          subst (λ (w : Shown S). GoesOn w moves.after) (sym here.0) (record {
            begun = done_start contents may_give texts faults moves.before line.place line.deed moves.after moves.done;
            grows = done_grows contents may_give texts faults moves.before line.place line.deed moves.after moves.done;
          }),
        )
        | inr there ↦ (u, there, record { begun = refl; grows = prefix_refl u.seen })
      ])

  pub lines_on : (us : List (Shown S)) (lines : List Line) (vs : List (Shown S)) → Lines contents may_give texts faults us lines vs → (j : ℕ) (u : Shown S) → slice_get us j ≡ Some u
      → (v : Shown S) × (slice_get vs j ≡ Some v) × GoesOn u v
  lines_on us [] vs same j u at = (u, subst (λ (ws : List (Shown S)). slice_get ws j ≡ Some u) (sym same) at, record { begun = refl; grows = prefix_refl u.seen })
  lines_on us (line ∷ lines) vs (mid, moves, rest) j u at =
      let first = moved_on us line mid moves j u at in
      let last = lines_on mid lines vs rest j first.0 first.1 in (
        last.0,
        last.1,
        record { begun = last.2.begun ∙ first.2.begun; grows = prefix_trans u.seen first.0.seen last.0.seen first.2.grows last.2.grows },
      )

-- The turns that a pass took are those of its operations. The key lemma is lines_turns.
use Rattle.std.proofs.Common.{◌≡◌, inl, inr, ℕ, ◌+◌, Bool, eq-eqb, ne_eqb, ⊎_elim, List, [], ◌∷◌, Option, Some, arith, sym, ap, subst, ◌∙◌}
use Rattle.std.specs.List.{slice_get}
use Rattle.std.specs.Prelude.{◌==◌, if◌then◌else◌, slice_set}
use Rattle.std.proofs.lemmas.Bool.{cases_eq}
use Rattle.std.proofs.lemmas.Option.{slice_get_within}
use Rattle.object_store.specs.Shelf.{Contents}
use Rattle.object_store.specs.declared.shelf.Slot.{Slot}
use Rattle.sync_calls.proofs.RoomLemmas.{get_set}
use Rattle.sync_calls.specs.Operations.{Called, Deed, IsDone, Line, Lines, Looked, Moves, TookTurn}
use Rattle.sync_calls.specs.Shown.{Shown}
use Rattle.hall_server.specs.Serving.{turns_at, turns_of}
use Rattle.hall_server.proofs.GoingLemmas.{from_some, set_back, set_there}

module _ {S : Type 0} (contents : S → Option Contents) (may_give : S → Slot → Option (List ℕ) → Type 0) (texts faults : S → ℕ) where
  done_turns : (u : Shown S) (place : ℕ) (deed : Deed) (v : Shown S) → IsDone contents may_give texts faults u place deed v → v.turns ≡ u.turns + turns_of deed
  done_turns u place Looked v looks = let same = ap (λ (w : Shown S). w.turns) looks.same in omega (arith, same)
  done_turns u place (Called call moment r) v (inl reads) = ap (λ (w : Shown S). w.turns) reads.same
  done_turns u place (Called call moment r) v (inr changes) = ap (λ (w : Shown S). w.turns) changes.same
  done_turns u place (TookTurn goal moment most taken) v (inl reads) = ap (λ (w : Shown S). w.turns) reads.same
  done_turns u place (TookTurn goal moment most taken) v (inr changes) = ap (λ (w : Shown S). w.turns) changes.same

  moved_turns : (us : List (Shown S)) (line : Line) (mid : List (Shown S)) → Moves contents may_give texts faults us line mid → (library : ℕ) (u v : Shown S)
      → slice_get us library ≡ Some u → slice_get mid library ≡ Some v → v.turns ≡ u.turns + (if line.library == library then turns_of line.deed else 0)
  moved_turns us line mid moves library u v was is =
      let here : slice_get (slice_set us line.library moves.after) library ≡ Some v = subst (λ (l : List (Shown S)). slice_get l library ≡ Some v) moves.is is in
      ⊎_elim
      (λ (e : line.library ≡ library).
      let before : u ≡ moves.before = from_some u moves.before (sym was ∙ subst (λ (n : ℕ). slice_get us n ≡ Some moves.before) e moves.was) in
      let set : slice_get (slice_set us line.library moves.after) library ≡ Some moves.after
      = subst (λ (n : ℕ). slice_get (slice_set us line.library moves.after) n ≡ Some moves.after) e
      (get_set us line.library moves.after (slice_get_within us line.library moves.before moves.was)) in
      let after : v ≡ moves.after = from_some v moves.after (sym here ∙ set) in
      let done = done_turns moves.before line.place line.deed moves.after moves.done in
      let one : (if line.library == library then turns_of line.deed else 0) ≡ turns_of line.deed
      = ap (λ (b : Bool). if b then turns_of line.deed else 0) (eq-eqb line.library library e) in
      let old = ap (λ (w : Shown S). w.turns) before in
      let new = ap (λ (w : Shown S). w.turns) after in
      omega (arith, done, one, old, new))
      (λ (ne : line.library ≡ library → ⊥).
      let none : (if line.library == library then turns_of line.deed else 0) ≡ 0
      = ap (λ (b : Bool). if b then turns_of line.deed else 0) (ne_eqb line.library library ne) in
      ⊎_elim (λ (there : (library ≡ line.library) × (v ≡ moves.after)). absurd (ne (sym there.0)))
      (λ (stays : slice_get us library ≡ Some v).
      let same = ap (λ (w : Shown S). w.turns) (from_some v u (sym stays ∙ was)) in
      omega (arith, none, same))
      (set_back us line.library moves.after library v here))
      (cases_eq line.library library)

  pub lines_turns : (us : List (Shown S)) (lines : List Line) (vs : List (Shown S)) → Lines contents may_give texts faults us lines vs → (library : ℕ) (u v : Shown S)
      → slice_get us library ≡ Some u → slice_get vs library ≡ Some v → v.turns ≡ u.turns + turns_at library lines
  lines_turns us [] vs same library u v was is =
      let still : v ≡ u = from_some v u (sym (subst (λ (l : List (Shown S)). slice_get l library ≡ Some v) same is) ∙ was) in
      let turns = ap (λ (w : Shown S). w.turns) still in
      omega (arith, turns)
  lines_turns us (line ∷ lines) vs (mid, moves, rest) library u v was is =
      let later : (w : Shown S) → slice_get mid library ≡ Some w → v.turns ≡ w.turns + turns_at library lines = λ w at. lines_turns mid lines vs rest library w v at is in
      ⊎_elim
      (λ (set : (u ≡ moves.before) × (slice_get (slice_set us line.library moves.after) library ≡ Some moves.after)).
      step later moves.after (ap (λ (l : List (Shown S)). slice_get l library) moves.is ∙ set.1))
      (λ (stays : slice_get (slice_set us line.library moves.after) library ≡ Some u). step later u (ap (λ (l : List (Shown S)). slice_get l library) moves.is ∙ stays))
      (set_there us line.library moves.after moves.before library u moves.was was)
    where
      step : ((w : Shown S) → slice_get mid library ≡ Some w → v.turns ≡ w.turns + turns_at library lines) → (w : Shown S) → slice_get mid library ≡ Some w
          → v.turns ≡ u.turns + turns_at library (line ∷ lines)
      step later w at =
          let first = moved_turns us line mid moves library u w was at in
          let more = later w at in
          omega (arith, first, more)

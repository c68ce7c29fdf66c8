-- What a pass that is ready shows of a hall's one library. The key lemma is ready_books.
use Rattle.std.proofs.Common.{◌≡◌, ℕ, ◌<◌, List, [], ◌∷◌, length, refl, sym, ap, subst, ◌∙◌, arith, Option, Some}
use Rattle.std.specs.List.{slice_get}
use Rattle.std.specs.Prelude.{slice_index_or, vec_len}
use Rattle.std.proofs.lemmas.List.{length-map}
use Rattle.std.proofs.lemmas.Option.{slice_get_within}
use Rattle.ids.proofs.BasicLemmas.{same_from_some}
use Rattle.object_store.specs.Shelf.{Contents}
use Rattle.object_store.specs.declared.shelf.Slot.{Slot}
use Rattle.turnstile.specs.Lists.{Has}
use Rattle.sync_calls.specs.Hall.{AreReady, HallOf, PassOf, passes_in, rooms_of, shown_by}
use Rattle.sync_calls.specs.Shown.{Knows, Shown, shown_of}
use Rattle.sync_calls.proofs.RoomLemmas.{get_map}
use Rattle.generated_library.proofs.OwnLemmas.{BooksSeen}

-- an item of a list that has one there
item_at : {A : Type 0} (xs : List A) (i : ℕ) → i < length xs → A
item_at [] i below = absurd (omega (arith, below))
item_at (x ∷ xs) i below = x

module _ {S : Type 0} (contents : S → Option Contents) (may_give : S → Slot → Option (List ℕ) → Type 0) (texts faults : S → ℕ) where
  pub ready_books : (hall : HallOf S) (pass : PassOf S) → AreReady contents may_give texts faults hall pass → (u : Shown S) → shown_by pass ≡ u ∷ [] → BooksSeen contents may_give texts faults u
  ready_books hall pass ready u is =
      let at : slice_get (shown_by pass) 0 ≡ Some u = ap (λ us. slice_get us 0) is in
      let below' = slice_get_within (shown_by pass) 0 u at in
      let size = length-map (passes_in pass) shown_of in
      let ok = pass.passes.ok.0 in
      let ok' = hall.rooms.ok.0 in
      let same = ready.size in
      let below : 0 < length (passes_in pass) = omega arith in
      let within : 0 < vec_len hall.rooms = omega arith in
      let inside : 0 < length (rooms_of hall) = omega arith in
      let room = item_at (rooms_of hall) 0 inside in
      let to = item_at (passes_in pass) 0 below in
      let shown : u ≡ shown_of (slice_index_or (passes_in pass) 0 to) = same_from_some _ _ (sym at ∙ get_map shown_of (passes_in pass) 0 to below) in
      subst (BooksSeen contents may_give texts faults) (sym shown) (ready.each 0 room to within).knows.below

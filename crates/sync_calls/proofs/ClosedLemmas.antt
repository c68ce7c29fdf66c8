-- A room and its pass that are taken from the ends of their lists. The key lemmas are taken_ready and ready_kept.
use Rattle.std.proofs.Common.{◌≡◌, ℕ, ◌<◌, ◌≤◌, List, [], ◌∷◌, ◌++◌, length, take, sym, ◌∙◌, ap, subst, arith}
use Rattle.std.specs.Prelude.{slice_index_or}
use Rattle.object_store.specs.Shelf.{Contents}
use Rattle.object_store.specs.declared.shelf.Slot.{Slot}
use Rattle.std.specs.Prelude.{Option}
use Rattle.turnstile.specs.PassView.{IsPassOf, view_of}
use Rattle.turnstile.specs.declared.view.View.{View}
use Rattle.sync_calls.specs.Hall.{AreReady, ExitLock, ExitOf, ExitPass, HallOf, IsReadyAt, LibraryRoom, PassOf, passes_in, rooms_of}
use Rattle.sync_calls.specs.Shown.{LibraryPass}
use Rattle.sync_calls.proofs.BehindLemmas.{last_there, one_less}

module _ {S : Type 0} (contents : S → Option Contents) (may_give : S → Slot → Option (List ℕ) → Type 0) (texts faults : S → ℕ) where
  pub taken_ready : (made : ℕ) (rooms rs frs : List (LibraryRoom S)) (passes ps fps : List (LibraryPass S)) (room : LibraryRoom S) (pass : LibraryPass S)
      → ((i : ℕ) (r : LibraryRoom S) (p : LibraryPass S) → i < length rooms → IsReadyAt contents may_give texts faults made made (slice_index_or rooms i r) (slice_index_or passes i p))
      → rs ≡ take (length rs) rooms → length rs ≤ length rooms → rs ≡ frs ++ room ∷ [] → ps ≡ take (length ps) passes → ps ≡ fps ++ pass ∷ [] → length fps ≡ length frs
      → IsReadyAt contents may_give texts faults made made room pass
  taken_ready made rooms rs frs passes ps fps room pass each front short pop front' pop' same =
      let longer = one_less rs frs room pop in
      let within : length frs < length rooms = omega arith in
      subst (λ (r : LibraryRoom S). IsReadyAt contents may_give texts faults made made r pass) (last_there rs frs room rooms room pop front)
      (subst (λ (p : LibraryPass S). IsReadyAt contents may_give texts faults made made (slice_index_or rooms (length frs) room) p) (last_there ps fps pass passes pass pop' front')
      (subst (λ (n : ℕ). IsReadyAt contents may_give texts faults made made (slice_index_or rooms (length frs) room) (slice_index_or passes n pass)) (sym same)
      (each (length frs) room pass within)))

  -- a way out and a pass to it that are as they were
  pub ready_kept : (hall : HallOf S) (pass : PassOf S) (exit : ExitLock S) (share : ExitPass S) → AreReady contents may_give texts faults hall pass → IsPassOf exit share
      → view_of share ≡ view_of pass.exit → AreReady contents may_give texts faults (record { rooms = hall.rooms; exit = exit }) (record { passes = pass.passes; exit = share })
  ready_kept hall pass exit share ready leaves same = record {
    leaves = leaves;
    way = ready.way;
    starts = ap (λ (v : View (ExitOf S) ℕ). v.start) same ∙ ready.starts;
    empty = ready.empty;
    fits = ready.fits;
    size = ready.size;
    each = λ i room to below.
        subst (λ (v : View (ExitOf S) ℕ). IsReadyAt contents may_give texts faults v.parts v.passes (slice_index_or (rooms_of hall) i room) (slice_index_or (passes_in pass) i to)) (sym same)
        (ready.each i room to below);
  }

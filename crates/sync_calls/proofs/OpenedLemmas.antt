-- Rooms that are opened in a hall, from the first library on. The key lemmas are opened_first, opened_next, next_sizes and
-- opened_all.
use Rattle.std.proofs.Common.{◌≡◌, ℕ, ◌+◌, ◌-◌, ◌<◌, ◌≤◌, List, [], ◌∷◌, ◌++◌, length, take, sym, ◌∙◌, ap, subst, arith, All, Option}
use Rattle.std.specs.Prelude.{slice_index_or, vec_capacity, vec_len}
use Rattle.std.proofs.lemmas.List.{get_or_append_left, length-append, take_all, take_more}
use Rattle.object_store.specs.Shelf.{Contents}
use Rattle.object_store.specs.declared.shelf.Slot.{Slot}
use Rattle.depot.specs.DepotView.{DepotView}
use Rattle.sync_calls.specs.Hall.{ExitOf, HallOf, LibraryRoom, PassOf, rooms_of}
use Rattle.sync_calls.specs.Making.{AreBehind, AreNew, IsDealt, IsFilling, IsFresh, IsNewOf, IsSeated}
use Rattle.sync_calls.specs.Shown.{LibraryPass}
use Rattle.sync_calls.specs.declared.making.Fresh.{Fresh}
use Rattle.sync_calls.proofs.BehindLemmas.{last_behind, one_less}
use Rattle.sync_calls.proofs.MakingLemmas.{filling_first, filling_next}

-- the item taken last is back in front
one_back : {A B : Type 0} (R : A → B → Type 0) (all left : List A) (front out : List B) (last : B) (a : A) → AreBehind R all left out → out ≡ front ++ last ∷ []
    → a ≡ slice_index_or all (length left) a → AreBehind R all (left ++ a ∷ []) front
one_back R all left front out last a so pop is =
    let longer = one_less out front last pop in
    let more = length-append left (a ∷ []) in
    let sizes = so.size in
    let below : length left < length all = omega arith in record {
      front = ap (λ l. l ++ a ∷ []) so.front ∙ (ap (λ x. take (length left) all ++ x ∷ []) is ∙ (sym (take_more all (length left) a below) ∙ ap (λ n. take n all) (sym more)));
      size = omega arith;
      each = λ k x y inside.
          let within : k < length out = omega arith in
          subst (λ z. R (slice_index_or all (length all - 1 - k) x) z) (ap (λ l. slice_index_or l k y) pop ∙ get_or_append_left front (last ∷ []) y k inside) (so.each k x y within);
    }

module _ {S : Type 0} (contents : S → Option Contents) (may_give : S → Slot → Option (List ℕ) → Type 0) (texts faults : S → ℕ) where
  -- the rooms of the first libraries are open in the hall, and those of the others wait
  pub record AreOpened (rooms passes : ℕ) (way : ExitOf S) (depots : List (DepotView S)) (hall : HallOf S) (seated : List (PassOf S)) (waiting : List (Fresh (LibraryRoom S) (LibraryPass S))) : Type 0 where
    pub open_now : List (DepotView S)
    pub behind : AreBehind (IsFresh passes) depots open_now waiting
    pub filling : All (IsFilling contents may_give texts faults rooms passes way open_now hall) seated

  pub opened_first : (rooms passes : ℕ) (way : ExitOf S) (depots : List (DepotView S)) (hall : HallOf S) (seated : List (PassOf S)) (waiting : List (Fresh (LibraryRoom S) (LibraryPass S)))
      → vec_len hall.rooms ≡ 0 → vec_len way.depots ≡ 0 → rooms ≤ vec_capacity way.depots → All (IsSeated rooms passes hall.exit way) seated → AreBehind (IsFresh passes) depots [] waiting
      → AreOpened rooms passes way depots hall seated waiting
  opened_first rooms passes way depots hall seated waiting none empty out seats behind = record {
    open_now = [];
    behind = behind;
    filling = λ i d below. filling_first contents may_give texts faults rooms passes way hall (slice_index_or seated i d) none empty out (seats i d below);
  }

  -- the room that is opened next, and the participants that get a pass to it
  pub next_fresh : (rooms passes : ℕ) (way : ExitOf S) (depots : List (DepotView S)) (hall : HallOf S) (seated : List (PassOf S)) (waiting front : List (Fresh (LibraryRoom S) (LibraryPass S)))
      (fresh : Fresh (LibraryRoom S) (LibraryPass S)) → (so : AreOpened rooms passes way depots hall seated waiting) → waiting ≡ front ++ fresh ∷ []
      → IsFresh passes (slice_index_or depots (length so.open_now) fresh.room.start.value) fresh
  next_fresh rooms passes way depots hall seated waiting front fresh so pop =
      last_behind (IsFresh passes) depots so.open_now front waiting fresh fresh.room.start.value so.behind pop

  pub next_capacity : (rooms passes : ℕ) (way : ExitOf S) (depots : List (DepotView S)) (hall : HallOf S) (seated : List (PassOf S)) (waiting : List (Fresh (LibraryRoom S) (LibraryPass S)))
      → AreOpened rooms passes way depots hall seated waiting → vec_len hall.rooms < rooms → All (λ pass. vec_len pass.passes < vec_capacity pass.passes) seated
  next_capacity rooms passes way depots hall seated waiting so few i d below =
      let one = so.filling i d below in
      let size = one.new.ready.size in
      let fits = one.fits in
      omega arith

  pub opened_next : (rooms passes : ℕ) (way : ExitOf S) (depots : List (DepotView S)) (hall next : HallOf S) (seated new : List (PassOf S)) (waiting front : List (Fresh (LibraryRoom S) (LibraryPass S)))
      (fresh : Fresh (LibraryRoom S) (LibraryPass S)) → AreOpened rooms passes way depots hall seated waiting → waiting ≡ front ++ fresh ∷ []
      → rooms_of next ≡ rooms_of hall ++ fresh.room ∷ [] → vec_len next.rooms ≡ vec_len hall.rooms + 1 → next.exit ≡ hall.exit → vec_len next.rooms ≤ rooms → length new ≡ length seated
      → ((i : ℕ) (d e : PassOf S) → i < length seated → IsDealt fresh.passes.items (slice_index_or seated i d) (slice_index_or new i e))
      → AreOpened rooms passes way depots next new front
  opened_next rooms passes way depots hall next seated new waiting front fresh so pop grown longer exit few same dealt =
      let is = next_fresh rooms passes way depots hall seated waiting front fresh so pop in
      let depot = fresh.room.start.value in record {
        open_now = so.open_now ++ depot ∷ [];
        behind = one_back (IsFresh passes) depots so.open_now front waiting fresh depot so.behind pop is.start;
        filling = λ i d below.
            let inside : i < length seated = omega arith in
            filling_next contents may_give texts faults rooms passes way so.open_now depot hall next (slice_index_or seated i d) (slice_index_or new i d) fresh (so.filling i d inside)
            (subst (λ (x : DepotView S). IsFresh passes x fresh) (sym is.start) is) (dealt i d d inside) grown longer exit few;
      }

  pub opened_all : (rooms passes : ℕ) (way : ExitOf S) (depots : List (DepotView S)) (hall : HallOf S) (seated : List (PassOf S)) (waiting : List (Fresh (LibraryRoom S) (LibraryPass S)))
      → AreOpened rooms passes way depots hall seated waiting → length waiting ≡ 0 → AreNew contents may_give texts faults passes depots hall seated
  opened_all rooms passes way depots hall seated waiting so none i d below =
      let sizes = so.behind.size in
      let all : so.open_now ≡ depots = so.behind.front ∙ take_all (length so.open_now) depots (omega arith) in
      let filled = so.filling i d below in
      subst (λ (ds : List (DepotView S)). IsNewOf contents may_give texts faults passes ds hall (slice_index_or seated i d)) all filled.new

-- Rooms that are made, filled and given up. The key lemmas are ended_first, same_all, ended_last, ended_next and ended_all, and
-- filling_first and filling_next.
use Rattle.std.proofs.Common.{◌≡◌, ℕ, ◌+◌, ◌-◌, ◌<◌, ◌≤◌, ⊎_elim, List, [], ◌∷◌, ◌++◌, length, map as map_list, refl, sym, ◌∙◌, ap, subst, arith, All, Option, Some}
use Rattle.std.specs.List.{Contains}
use Rattle.std.specs.Prelude.{slice_index_or, vec_capacity, vec_len}
use Rattle.std.proofs.lemmas.Bool.{cases_eq}
use Rattle.std.proofs.lemmas.List.Elements.{All-nil, All-push}
use Rattle.std.proofs.lemmas.List.{get_or_append_left, get_or_at, get_or_default, get_or_push, length-append, map-append}
use Rattle.object_store.specs.Shelf.{Contents}
use Rattle.object_store.specs.declared.shelf.Slot.{Slot}
use Rattle.depot.specs.DepotView.{DepotView}
use Rattle.depot.specs.Story.{ComesBy, comes_itself, same_itself}
use Rattle.turnstile.specs.PassView.{IsNewPass, IsPassOf, drawn_of, first_of, parts_of, passes_of, start_of}
use Rattle.turnstile.specs.declared.view.View.{View}
use Rattle.sync_calls.specs.Door.{IsDoorOf}
use Rattle.sync_calls.specs.Hall.{ExitLock, ExitOf, HallOf, IsReadyAt, LibraryRoom, PassOf, made_with, passes_in, rooms_of, shares_of}
use Rattle.sync_calls.specs.Making.{AreBehind, AreEndedTo, AreSame, IsDealt, IsFilling, IsFresh, IsSeated, new_shown}
use Rattle.sync_calls.specs.Shown.{Knows, LibraryPass, LibraryView, Shown, all_shown, shown_in, shown_of}
use Rattle.sync_calls.specs.declared.making.Fresh.{Fresh}
use Rattle.sync_calls.proofs.BehindLemmas.{front_at, one_less}

module _ {S : Type 0} (contents : S → Option Contents) (may_give : S → Slot → Option (List ℕ) → Type 0) (texts faults : S → ℕ) where
  pub ended_first : (passes : ℕ) (all left : List (DepotView S)) (rooms : List (Fresh (LibraryRoom S) (LibraryPass S))) → AreBehind (IsFresh passes) all left rooms
      → AreEndedTo contents may_give texts faults passes all left rooms
  ended_first passes all left rooms so = record {
    size = so.size;
    back = λ i d e below.
        subst (λ (x : DepotView S). ComesBy contents may_give texts faults x [] (slice_index_or left i e)) (front_at left all i d so.front below)
        (subst (λ (x : DepotView S). ComesBy contents may_give texts faults (slice_index_or left i d) [] x) (get_or_default left i d e below) (comes_itself contents may_give texts faults (slice_index_or left i d)));
    each = so.each;
  }

  -- each is the same as itself
  pub same_all : (all : List (DepotView S)) → AreSame contents may_give texts faults all all
  same_all all = (
    refl,
    λ i d e below.
        subst (λ (x : DepotView S). ComesBy contents may_give texts faults (slice_index_or all i d) [] x) (get_or_default all i d e below)
        (comes_itself contents may_give texts faults (slice_index_or all i d)),
  )

  pub ended_next : (passes : ℕ) (all depots : List (DepotView S)) (rooms front : List (Fresh (LibraryRoom S) (LibraryPass S))) (last : Fresh (LibraryRoom S) (LibraryPass S)) (new : DepotView S)
      → AreEndedTo contents may_give texts faults passes all depots rooms → rooms ≡ front ++ last ∷ [] → ((depot : DepotView S) → IsFresh passes depot last → ComesBy contents may_give texts faults depot [] new)
      → AreEndedTo contents may_give texts faults passes all (depots ++ new ∷ []) front
  ended_next passes all depots rooms front last new so pop same =
      let longer = one_less rooms front last pop in
      let more = length-append depots (new ∷ []) in
      let sizes = so.size in record {
        size = omega arith;
        back = λ i d e below. ⊎_elim
            (λ (is : i ≡ length depots).
            let there : length front < length rooms = omega arith in
            let at : length all - 1 - length front ≡ i = omega arith in
            let fresh : IsFresh passes (slice_index_or all i d) last
            = subst (λ (n : ℕ). IsFresh passes (slice_index_or all n d) last) at
            (subst (λ (r : Fresh (LibraryRoom S) (LibraryPass S)). IsFresh passes (slice_index_or all (length all - 1 - length front) d) r)
            (ap (λ l. slice_index_or l (length front) last) pop ∙ get_or_at front last [] last (length front) refl) (so.each (length front) d last there)) in
            subst (λ (x : DepotView S). ComesBy contents may_give texts faults (slice_index_or all i d) [] x) (sym (get_or_push depots new e i (sym is))) (same (slice_index_or all i d) fresh))
            (λ (ne : i ≡ length depots → ⊥).
            let inner : i < length depots = within i (length depots) (length (depots ++ new ∷ [])) more below ne in
            subst (λ (x : DepotView S). ComesBy contents may_give texts faults (slice_index_or all i d) [] x) (sym (get_or_append_left depots (new ∷ []) e i inner)) (so.back i d e inner))
            (cases_eq i (length depots));
        each = λ k d r below.
            let below' : k < length rooms = omega arith in
            subst (λ (x : Fresh (LibraryRoom S) (LibraryPass S)). IsFresh passes (slice_index_or all (length all - 1 - k) d) x)
            (ap (λ l. slice_index_or l k r) pop ∙ get_or_append_left front (last ∷ []) r k below) (so.each k d r below');
      }
    where
      within : (k n m : ℕ) → m ≡ n + 1 → k < m → (k ≡ n → ⊥) → k < n
      within k n m is below ne = omega (arith, ne)

  -- the one that is taken next is the library behind those that are back
  pub ended_last : (passes : ℕ) (all depots : List (DepotView S)) (rooms front : List (Fresh (LibraryRoom S) (LibraryPass S))) (last : Fresh (LibraryRoom S) (LibraryPass S))
      → AreEndedTo contents may_give texts faults passes all depots rooms → rooms ≡ front ++ last ∷ []
      → IsFresh passes (slice_index_or all (length all - 1 - length front) last.room.start.value) last
  ended_last passes all depots rooms front last so pop =
      let longer = one_less rooms front last pop in
      let there : length front < length rooms = omega arith in
      subst (λ (r : Fresh (LibraryRoom S) (LibraryPass S)). IsFresh passes (slice_index_or all (length all - 1 - length front) last.room.start.value) r)
      (ap (λ l. slice_index_or l (length front) last) pop ∙ get_or_at front last [] last (length front) refl) (so.each (length front) last.room.start.value last there)

  pub ended_all : (passes : ℕ) (all depots : List (DepotView S)) (rooms : List (Fresh (LibraryRoom S) (LibraryPass S))) → AreEndedTo contents may_give texts faults passes all depots rooms → length rooms ≡ 0
      → AreSame contents may_give texts faults all depots
  ended_all passes all depots rooms so none =
      let sizes = so.size in
      let same : length depots ≡ length all = omega arith in
      (same, λ i d e below. so.back i d e (omega arith))

-- what one that was dealt is
dealt_is : {A : Type 0} (P : A → Type 0) (xs : List A) (x : A) → All P xs → Contains xs x → P x
dealt_is P xs x each (k, below, is) = subst P is (each k x below)

module _ {S : Type 0} (contents : S → Option Contents) (may_give : S → Slot → Option (List ℕ) → Type 0) (texts faults : S → ℕ) where
  -- a new pass to a room is ready
  ready_new : (passes : ℕ) (depot : DepotView S) (fresh : Fresh (LibraryRoom S) (LibraryPass S)) (one : LibraryPass S) → IsFresh passes depot fresh → Contains fresh.passes.items one
      → IsReadyAt contents may_give texts faults 1 passes fresh.room one × (shown_of one ≡ new_shown depot) × ((first_of one ≡ 0) × (drawn_of one ≡ 0))
  ready_new passes depot fresh one new has =
      let is : IsNewPass fresh.room.lock (Some depot) passes 0 one = dealt_is (IsNewPass fresh.room.lock (Some depot) passes 0) fresh.passes.items one new.each has in
      let shows : shown_of one ≡ new_shown depot = ap (λ (v : LibraryView S). shown_in v) is.1 in (
        record {
          ready = is.0;
          knows = subst (λ (u : Shown S). Knows contents may_give texts faults u) (sym shows)
              (record { start = depot; begins = refl; last = depot; leads = same_itself contents faults depot; once = tt; below = λ p has. absurd has });
          begins = ap (λ (v : LibraryView S). v.start) is.1 ∙ ap Some (sym new.start);
          opens = subst (λ (d : DepotView S). IsDoorOf fresh.room.door d) (sym new.start) new.door;
          share = ap (λ (v : LibraryView S). v.parts) is.1;
          among = ap (λ (v : LibraryView S). v.passes) is.1;
          first = ap (λ (v : LibraryView S). v.first) is.1;
        },
        shows,
        (ap (λ (v : LibraryView S). v.first) is.1, ap (λ (v : LibraryView S). v.drawn) is.1),
      )

  pub filling_first : (rooms passes : ℕ) (way : ExitOf S) (hall : HallOf S) (pass : PassOf S) → vec_len hall.rooms ≡ 0 → vec_len way.depots ≡ 0 → rooms ≤ vec_capacity way.depots
      → IsSeated rooms passes hall.exit way pass → IsFilling contents may_give texts faults rooms passes way [] hall pass
  filling_first rooms passes way hall pass none empty out seated =
      let begins : start_of pass.exit ≡ Some way = ap (λ (v : View (ExitOf S) ℕ). v.start) seated.exits.1 in
      let sized = pass.passes.ok.0 in
      let bare : length (passes_in pass) ≡ 0 = ap length seated.empty in
      record {
        new = record {
          ready = record {
            leaves = seated.exits.0;
            way = way;
            starts = begins;
            empty = empty;
            fits = omega arith;
            size = omega arith;
            each = λ i room to below. absurd (omega arith);
          };
          shows = ap all_shown seated.empty;
          share = ap (λ (v : View (ExitOf S) ℕ). v.parts) seated.exits.1;
          made = ap (λ (v : View (ExitOf S) ℕ). v.passes) seated.exits.1;
          tickets = subst (λ l. All (λ to. (first_of to ≡ 0) × (drawn_of to ≡ 0)) l) (sym seated.empty) (All-nil (λ (to : LibraryPass S). (first_of to ≡ 0) × (drawn_of to ≡ 0)));
        };
        fits = seated.fits;
        starts = begins;
        empty = empty;
        out = out;
      }

  pub filling_next : (rooms passes : ℕ) (way : ExitOf S) (depots : List (DepotView S)) (depot : DepotView S) (hall next : HallOf S) (pass new : PassOf S) (fresh : Fresh (LibraryRoom S) (LibraryPass S))
      → IsFilling contents may_give texts faults rooms passes way depots hall pass → IsFresh passes depot fresh → IsDealt fresh.passes.items pass new
      → rooms_of next ≡ rooms_of hall ++ fresh.room ∷ [] → vec_len next.rooms ≡ vec_len hall.rooms + 1 → next.exit ≡ hall.exit → vec_len next.rooms ≤ rooms
      → IsFilling contents may_give texts faults rooms passes way (depots ++ depot ∷ []) next new
  filling_next rooms passes way depots depot hall next pass new fresh so is dealt grown longer exit few =
      let one = ready_new passes depot fresh dealt.one is dealt.is in
      let sized = so.new.ready.size in
      let more = dealt.size in
      let starts : start_of new.exit ≡ Some way = ap start_of dealt.exit ∙ so.starts in
      let share : shares_of new ≡ 1 = ap parts_of dealt.exit ∙ so.new.share in
      let made : made_with new ≡ passes = ap passes_of dealt.exit ∙ so.new.made in
      let out = so.out in
      let ok = hall.rooms.ok.0 in
      let ok' = pass.passes.ok.0 in
      record {
        new = record {
          ready = record {
            leaves = subst (λ (l : ExitLock S). IsPassOf l new.exit) (sym exit) (subst (λ e. IsPassOf hall.exit e) (sym dealt.exit) so.new.ready.leaves);
            way = way;
            starts = starts;
            empty = so.empty;
            fits = omega arith;
            size = omega arith;
            each = λ i room to below.
                subst (λ (n : ℕ). IsReadyAt contents may_give texts faults n (made_with new) (slice_index_or (rooms_of next) i room) (slice_index_or (passes_in new) i to)) (sym share)
                (subst (λ (n : ℕ). IsReadyAt contents may_give texts faults 1 n (slice_index_or (rooms_of next) i room) (slice_index_or (passes_in new) i to)) (sym made)
                (subst (λ l. IsReadyAt contents may_give texts faults 1 passes (slice_index_or l i room) (slice_index_or (passes_in new) i to)) (sym grown)
                (subst (λ l. IsReadyAt contents may_give texts faults 1 passes (slice_index_or (rooms_of hall ++ fresh.room ∷ []) i room) (slice_index_or l i to)) (sym dealt.grows)
                (⊎_elim
                (λ (e : i ≡ length (rooms_of hall)).
                let e' : length (passes_in pass) ≡ i = omega arith in
                subst (λ (r : LibraryRoom S). IsReadyAt contents may_give texts faults 1 passes r (slice_index_or (passes_in pass ++ dealt.one ∷ []) i to)) (sym (get_or_push (rooms_of hall) fresh.room room i (sym e)))
                (subst (λ (p : LibraryPass S). IsReadyAt contents may_give texts faults 1 passes fresh.room p) (sym (get_or_push (passes_in pass) dealt.one to i e')) one.0))
                (λ (ne : i ≡ length (rooms_of hall) → ⊥).
                let inner : i < vec_len hall.rooms = within i (vec_len hall.rooms) (vec_len next.rooms) (length (rooms_of hall)) longer ok below ne in
                let inside : i < length (rooms_of hall) = omega arith in
                let inside' : i < length (passes_in pass) = omega arith in
                subst (λ (r : LibraryRoom S). IsReadyAt contents may_give texts faults 1 passes r (slice_index_or (passes_in pass ++ dealt.one ∷ []) i to)) (sym (get_or_append_left (rooms_of hall) (fresh.room ∷ []) room i inside))
                (subst (λ (p : LibraryPass S). IsReadyAt contents may_give texts faults 1 passes (slice_index_or (rooms_of hall) i room) p) (sym (get_or_append_left (passes_in pass) (dealt.one ∷ []) to i inside'))
                (subst (λ (n : ℕ). IsReadyAt contents may_give texts faults n passes (slice_index_or (rooms_of hall) i room) (slice_index_or (passes_in pass) i to)) so.new.share
                (subst (λ (n : ℕ). IsReadyAt contents may_give texts faults (shares_of pass) n (slice_index_or (rooms_of hall) i room) (slice_index_or (passes_in pass) i to)) so.new.made
                (so.new.ready.each i room to inner)))))
                (cases_eq i (length (rooms_of hall)))))));
          };
          shows = ap all_shown dealt.grows ∙ (map-append shown_of (passes_in pass) (dealt.one ∷ [])
              ∙ (ap (λ l. l ++ shown_of dealt.one ∷ []) so.new.shows
              ∙ (ap (λ (u : Shown S). map_list new_shown depots ++ u ∷ []) one.1 ∙ sym (map-append new_shown depots (depot ∷ [])))));
          share = share;
          made = made;
          tickets = subst (λ l. All (λ to. (first_of to ≡ 0) × (drawn_of to ≡ 0)) l) (sym dealt.grows) (All-push (λ to. (first_of to ≡ 0) × (drawn_of to ≡ 0)) (passes_in pass) dealt.one so.new.tickets one.2);
        };
        fits = subst (λ (n : ℕ). rooms ≤ n) (sym dealt.room) so.fits;
        starts = starts;
        empty = so.empty;
        out = so.out;
      }
    where
      within : (i n m l : ℕ) → m ≡ n + 1 → n ≡ l → i < m → (i ≡ l → ⊥) → i < n
      within i n m l more same below ne = omega (arith, ne)

-- Two passes that are joined, one library after another from the last. The key lemmas are first_joined, step_joined and
-- all_joined.
use Rattle.std.proofs.Common.{◌≡◌, ℕ, ◌+◌, ◌<◌, ◌≤◌, ⊎_elim, List, [], ◌∷◌, ◌++◌, length, take, refl, sym, ◌∙◌, ap, subst, arith, Option}
use Rattle.std.specs.Prelude.{slice_index_or, slice_set, vec_len}
use Rattle.std.proofs.lemmas.Bool.{cases_eq}
use Rattle.std.proofs.lemmas.List.{get_or-set_other, get_or-set_same, get_or_default, length-set, take_all}
use Rattle.object_store.specs.Shelf.{Contents}
use Rattle.object_store.specs.declared.shelf.Slot.{Slot}
use Rattle.turnstile.specs.PassView.{IsPassOf, parts_of, passes_of, start_of}
use Rattle.sync_calls.specs.Hall.{AreReady, ExitPass, HallOf, IsReadyAt, LibraryRoom, PassOf, made_with, passes_in, rooms_of, shares_of}
use Rattle.sync_calls.specs.Joining.{IsJoinedPass}
use Rattle.sync_calls.specs.Shown.{LibraryPass}
use Rattle.sync_calls.proofs.BehindLemmas.{front_less, last_there, one_less}
use Rattle.sync_calls.proofs.EnteredLemmas.{ready_at}

module _ {S : Type 0} (contents : S → Option Contents) (may_give : S → Slot → Option (List ℕ) → Type 0) (texts faults : S → ℕ) where
  -- these passes are left to join, and the libraries behind them are joined
  pub record AreJoinedBehind (shares made : ℕ) (rooms : List (LibraryRoom S)) (into from left now : List (LibraryPass S)) : Type 0 where
    pub size : length now ≡ length into
    pub both : length from ≡ length into
    pub front : left ≡ take (length left) from
    pub short : length left ≤ length from
    pub kept : (i : ℕ) (d : LibraryPass S) → i < length left → slice_index_or now i d ≡ slice_index_or into i d
    pub ready : (i : ℕ) (room : LibraryRoom S) (d : LibraryPass S) → length left ≤ i → i < length into
        → IsReadyAt contents may_give texts faults shares made (slice_index_or rooms i room) (slice_index_or now i d)
    pub told : (i : ℕ) (d e f : LibraryPass S) → length left ≤ i → i < length into
        → IsJoinedPass (slice_index_or into i d) (slice_index_or from i e) (slice_index_or now i f)

  pub first_joined : (shares made : ℕ) (rooms : List (LibraryRoom S)) (into from : List (LibraryPass S)) → length from ≡ length into
      → AreJoinedBehind shares made rooms into from from into
  first_joined shares made rooms into from both = record {
    size = refl;
    both = both;
    front = sym (take_all (length from) from (omega arith));
    short = omega arith;
    kept = λ i d below. refl;
    ready = λ i room d past below. absurd (omega arith);
    told = λ i d e f past below. absurd (omega arith);
  }

  -- the last of those that are left is joined
  pub next_joined : (shares made : ℕ) (rooms : List (LibraryRoom S)) (into from old front now : List (LibraryPass S)) (last new : LibraryPass S) (room : LibraryRoom S)
      → AreJoinedBehind shares made rooms into from old now → old ≡ front ++ last ∷ []
      → IsReadyAt contents may_give texts faults shares made (slice_index_or rooms (length front) room) new
      → IsJoinedPass (slice_index_or into (length front) last) last new
      → length front < length rooms
      → AreJoinedBehind shares made rooms into from front (slice_set now (length front) new)
  next_joined shares made rooms into from old front now last new room so pop there joined inside =
      let longer = one_less old front last pop in
      let sizes = so.size in
      let boths = so.both in
      let shorts = so.short in
      let set = length-set now (length front) new in
      let here : length front < length now = omega arith in record {
        size = length-set now (length front) new ∙ so.size;
        both = so.both;
        front = front_less old front last from pop so.front;
        short = omega arith;
        kept = λ i d below.
            let apart : i ≡ length front → ⊥ = λ e. omega arith in
            get_or-set_other now (length front) i new d apart ∙ so.kept i d (omega arith);
        ready = λ i r d past below. ⊎_elim
            (λ (e : i ≡ length front). subst (λ n. IsReadyAt contents may_give texts faults shares made (slice_index_or rooms n r) (slice_index_or (slice_set now (length front) new) n d)) (sym e)
            (subst (λ (p : LibraryPass S). IsReadyAt contents may_give texts faults shares made (slice_index_or rooms (length front) r) p) (sym (get_or-set_same now (length front) new d here))
            (subst (λ (q : LibraryRoom S). IsReadyAt contents may_give texts faults shares made q new) (get_or_default rooms (length front) room r inside) there)))
            (λ (ne : i ≡ length front → ⊥). subst (λ (p : LibraryPass S). IsReadyAt contents may_give texts faults shares made (slice_index_or rooms i r) p) (sym (get_or-set_other now (length front) i new d ne))
            (so.ready i r d (beyond old front i longer past ne) below))
            (cases_eq i (length front));
        told = λ i d e f past below. ⊎_elim
            (λ (is : i ≡ length front). subst (λ n. IsJoinedPass (slice_index_or into n d) (slice_index_or from n e) (slice_index_or (slice_set now (length front) new) n f)) (sym is)
            (subst (λ (p : LibraryPass S). IsJoinedPass (slice_index_or into (length front) d) (slice_index_or from (length front) e) p) (sym (get_or-set_same now (length front) new f here))
            (subst (λ (p : LibraryPass S). IsJoinedPass (slice_index_or into (length front) d) p new) (sym (last_there old front last from e pop so.front))
            (subst (λ (p : LibraryPass S). IsJoinedPass p last new) (get_or_default into (length front) last d (omega arith)) joined))))
            (λ (ne : i ≡ length front → ⊥). subst (λ (p : LibraryPass S). IsJoinedPass (slice_index_or into i d) (slice_index_or from i e) p) (sym (get_or-set_other now (length front) i new f ne))
            (so.told i d e f (beyond old front i longer past ne) below))
            (cases_eq i (length front));
      }
    where
      beyond : (old front : List (LibraryPass S)) (i : ℕ) → length old ≡ length front + 1 → length front ≤ i → (i ≡ length front → ⊥) → length old ≤ i
      beyond old front i longer past ne = omega (arith, ne)

  module _ (hall : HallOf S) (into from : PassOf S) (ready : AreReady contents may_give texts faults hall into) (ready' : AreReady contents may_give texts faults hall from)
      (shares made : ℕ) (old front now : List (LibraryPass S)) (last : LibraryPass S)
      (so : AreJoinedBehind shares made (rooms_of hall) (passes_in into) (passes_in from) old now) (pop : old ≡ front ++ last ∷ []) where
    -- there is a room at that place, and a pass to it
    pub place_within : (length front < vec_len hall.rooms) × (length front < length now)
    place_within =
        let longer = one_less old front last pop in
        let sizes = so.size in
        let boths = so.both in
        let shorts = so.short in
        let mine = ready.size in
        let ok = into.passes.ok.0 in
        (omega arith, omega arith)

    pub into_ready : (room : LibraryRoom S) (to : LibraryPass S) → room ≡ slice_index_or (rooms_of hall) (length front) room → to ≡ slice_index_or now (length front) to
        → IsReadyAt contents may_give texts faults (parts_of to) (passes_of to) room to
    into_ready room to is at =
        let longer = one_less old front last pop in
        ready_at contents may_give texts faults hall into ready (length front) room to place_within.0 is (at ∙ so.kept (length front) to (omega arith))

    pub from_ready : (room : LibraryRoom S) → room ≡ slice_index_or (rooms_of hall) (length front) room
        → IsReadyAt contents may_give texts faults (parts_of last) (passes_of last) room last
    from_ready room is = ready_at contents may_give texts faults hall from ready' (length front) room last place_within.0 is (sym (last_there old front last (passes_in from) last pop so.front))

    pub step_joined : (room : LibraryRoom S) (to new : LibraryPass S) → shares ≡ shares_of into + shares_of from → made ≡ made_with into
        → room ≡ slice_index_or (rooms_of hall) (length front) room → to ≡ slice_index_or now (length front) to
        → IsReadyAt contents may_give texts faults (parts_of to + parts_of last) (passes_of to) room new → IsJoinedPass to last new
        → AreJoinedBehind shares made (rooms_of hall) (passes_in into) (passes_in from) front (slice_set now (length front) new)
    step_joined room to new sum among is at there joined =
        let longer = one_less old front last pop in
        let sizes = so.size in
        let ok = into.passes.ok.0 in
        let ok' = hall.rooms.ok.0 in
        let within = place_within.0 in
        let inside = place_within.1 in
        let below : length front < length (passes_in into) = omega arith in
        let kept : to ≡ slice_index_or (passes_in into) (length front) to = at ∙ so.kept (length front) to (omega arith) in
        let taken : slice_index_or (passes_in from) (length front) last ≡ last = last_there old front last (passes_in from) last pop so.front in
        let mine = ready.each (length front) room to within in
        let its = ready'.each (length front) room last within in
        let share : parts_of to ≡ shares_of into = ap parts_of kept ∙ mine.share in
        let share' : parts_of last ≡ shares_of from = ap parts_of (sym taken) ∙ its.share in
        let count : parts_of to + parts_of last ≡ shares = omega arith in
        let among' : passes_of to ≡ made = ap passes_of kept ∙ (mine.among ∙ sym among) in
        next_joined shares made (rooms_of hall) (passes_in into) (passes_in from) old front now last new room so pop
        (subst (λ (r : LibraryRoom S). IsReadyAt contents may_give texts faults shares made r new) is
        (subst (λ (n : ℕ). IsReadyAt contents may_give texts faults n made room new) count
        (subst (λ (n : ℕ). IsReadyAt contents may_give texts faults (parts_of to + parts_of last) n room new) among' there)))
        (subst (λ (p : LibraryPass S). IsJoinedPass p last new) (kept ∙ get_or_default (passes_in into) (length front) to last below) joined)
        (omega arith)

  -- all are joined
  pub all_joined : (hall : HallOf S) (into from new : PassOf S) (exit : ExitPass S) (left : List (LibraryPass S)) → AreReady contents may_give texts faults hall into
      → AreJoinedBehind (parts_of exit) (passes_of exit) (rooms_of hall) (passes_in into) (passes_in from) left (passes_in new) → length left ≡ 0
      → new.exit ≡ exit → IsPassOf hall.exit exit → start_of exit ≡ start_of into.exit → AreReady contents may_give texts faults hall new
  all_joined hall into from new exit left ready so none same leaves starts =
      let sizes = so.size in
      let mine = ready.size in
      let ok = into.passes.ok.0 in
      let ok' = new.passes.ok.0 in record {
        leaves = subst (λ (e : ExitPass S). IsPassOf hall.exit e) (sym same) leaves;
        way = ready.way;
        starts = ap (λ (e : ExitPass S). start_of e) same ∙ (starts ∙ ready.starts);
        empty = ready.empty;
        fits = ready.fits;
        size = omega arith;
        each = λ i room to below.
            subst (λ (e : ExitPass S). IsReadyAt contents may_give texts faults (parts_of e) (passes_of e) (slice_index_or (rooms_of hall) i room) (slice_index_or (passes_in new) i to)) (sym same)
            (so.ready i room to (omega arith) (omega arith));
      }

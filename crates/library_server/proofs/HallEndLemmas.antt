-- The libraries that come out of a hall after a connection, and back to where they are kept. The key lemmas are pass_at, stay_started, led, closed_within and held_size.
use Rattle.std.proofs.Common.{◌≡◌, ℕ, zero, suc, ◌<◌, List, [], ◌∷◌, length, Option, Some, refl, sym, ap, subst, ◌∙◌, arith}
use Rattle.std.specs.Prelude.{map as map_list, slice_index_or, slice_set}
use Rattle.std.specs.List.{slice_get}
use Rattle.std.proofs.lemmas.List.{get_or_default, length-map, length-set}
use Rattle.std.proofs.lemmas.Option.{slice_get_within}
use Rattle.depot.specs.DepotView.{DepotView}
use Rattle.depot.specs.Story.{ComesBy}
use Rattle.object_store.specs.Shelf.{Contents}
use Rattle.object_store.specs.declared.shelf.Slot.{Slot}
use Rattle.sync_calls.proofs.RoomLemmas.{get_map}
use Rattle.sync_calls.specs.Closing.{AreClosed, IsClosed}
use Rattle.sync_calls.specs.Hall.{AreWithin}
use Rattle.sync_calls.specs.Making.{new_shown}
use Rattle.sync_calls.specs.Operations.{Line, Lines, Moves}
use Rattle.sync_calls.specs.Shown.{LibraryPass, Shown, all_shown, shown_of}
use Rattle.turnstile.specs.Lists.{Has}
use Rattle.turnstile.specs.PassView.{drawn_of, turns_of}
use Rattle.hall_server.proofs.GoingLemmas.{done_start, from_some}
use Rattle.hall_server.specs.Serving.{Goes}
use Rattle.link_ears.specs.Ear.{LinkView}
use Rattle.library_server.specs.HallConnections.{AreLedTo, HoldsHall, held, not_held}

-- ---- how each history began

module _ {S : Type 0} where
  -- one is set that begins as it did
  set_start : (us : List (Shown S)) (k : ℕ) (before after : Shown S) → slice_get us k ≡ Some before → after.start ≡ before.start → (i : ℕ) (v u : Shown S) → i < length us
      → (slice_index_or (slice_set us k after) i v).start ≡ (slice_index_or us i u).start
  set_start [] k before after was same i v u below = absurd (omega (arith, below))
  set_start (x ∷ xs) zero before after was same zero v u below = same ∙ ap (λ (w : Shown S). w.start) (sym (from_some x before was))
  set_start (x ∷ xs) zero before after was same (suc i) v u below = ap (λ (w : Shown S). w.start) (get_or_default xs i v u (omega (arith, below)))
  set_start (x ∷ xs) (suc k) before after was same zero v u below = refl
  set_start (x ∷ xs) (suc k) before after was same (suc i) v u below = set_start xs k before after was same i v u (omega (arith, below))

  -- the pass in a place, and what it shows
  pub pass_at : (passes : List (LibraryPass S)) (i : ℕ) (v : Shown S) → i < length passes
      → (p : LibraryPass S) × (slice_index_or passes i p ≡ p) × (slice_index_or (all_shown passes) i v ≡ shown_of p)
  pass_at [] i v below = absurd (omega (arith, below))
  pass_at (p ∷ passes) zero v below = (p, refl, refl)
  pass_at (p ∷ passes) (suc i) v below = pass_at passes i v (omega (arith, below))

  -- a library that nothing was seen of begins as it is
  new_start : (depots : List (DepotView S)) (i : ℕ) (v : Shown S) (d : DepotView S) → i < length depots → (slice_index_or (map_list new_shown depots) i v).start ≡ Some (slice_index_or depots i d)
  new_start [] i v d below = absurd (omega (arith, below))
  new_start (x ∷ xs) zero v d below = refl
  new_start (x ∷ xs) (suc i) v d below = new_start xs i v d (omega (arith, below))

module _ {S : Type 0} (contents : S → Option Contents) (may_give : S → Slot → Option (List ℕ) → Type 0) (texts faults : S → ℕ) where
  -- so many stay, each with its start
  abbrev pub StayStarted : List (Shown S) → List (Shown S) → Type 0
  StayStarted us vs = (length vs ≡ length us) × ((i : ℕ) (v u : Shown S) → i < length us → (slice_index_or vs i v).start ≡ (slice_index_or us i u).start)

  moved_start : (us : List (Shown S)) (line : Line) (vs : List (Shown S)) → Moves contents may_give texts faults us line vs → StayStarted us vs
  moved_start us line vs moves =
      subst (λ (ws : List (Shown S)). StayStarted us ws) (sym moves.is) (
        length-set us line.library moves.after,
        set_start us line.library moves.before moves.after moves.was (done_start contents may_give texts faults moves.before line.place line.deed moves.after moves.done),
      )

  pub stay_started : (us : List (Shown S)) (lines : List Line) (vs : List (Shown S)) → Lines contents may_give texts faults us lines vs → StayStarted us vs
  stay_started us [] vs same =
      subst (λ (ws : List (Shown S)). StayStarted us ws) (sym same) (refl, λ i v u below. ap (λ (w : Shown S). w.start) (get_or_default us i v u below))
  stay_started us (line ∷ lines) vs (mid, moves, rest) =
      let first = moved_start us line mid moves in
      let later = stay_started mid lines vs rest in (
        later.0 ∙ first.0,
        λ i v u below. later.1 i v u (subst (λ (n : ℕ). i < n) (sym first.0) below) ∙ first.1 i u u below,
      )

  -- ---- the libraries that come out

  pub led_by : (depots afters : List (DepotView S)) (us : List (Shown S)) (passes : List (LibraryPass S)) → us ≡ map_list new_shown depots → StayStarted us (all_shown passes)
      → AreClosed contents may_give texts faults passes afters → AreLedTo contents may_give texts faults depots (all_shown passes) afters
  led_by depots afters us passes begins stays closed =
      let first : length us ≡ length depots = ap length begins ∙ length-map depots new_shown in
      let shown : length (all_shown passes) ≡ length passes = length-map passes shown_of in
      let size : length passes ≡ length depots = sym shown ∙ (stays.0 ∙ first) in (
        closed.0 ∙ size,
        λ i v d e below. one i v d e below (subst (λ (n : ℕ). i < n) (sym size) below) (subst (λ (n : ℕ). i < n) (sym first) below) stays.1 (pass_at passes i v (subst (λ (n : ℕ). i < n) (sym size) below)),
      )
    where
      one : (i : ℕ) (v : Shown S) (d e : DepotView S) → i < length depots → i < length passes → i < length us
          → ((i : ℕ) (v u : Shown S) → i < length us → (slice_index_or (all_shown passes) i v).start ≡ (slice_index_or us i u).start)
          → (p : LibraryPass S) × (slice_index_or passes i p ≡ p) × (slice_index_or (all_shown passes) i v ≡ shown_of p)
          → ComesBy contents may_give texts faults (slice_index_or depots i d) (slice_index_or (all_shown passes) i v).seen (slice_index_or afters i e)
          × ((p : ℕ) → p < length (slice_index_or (all_shown passes) i v).seen → Has p (slice_index_or (all_shown passes) i v).book)
      one i v d e below among within stays (p, is, shows) =
          let out : IsClosed contents may_give texts faults p (slice_index_or afters i e)
          = subst (λ (q : LibraryPass S). IsClosed contents may_give texts faults q (slice_index_or afters i e)) is (closed.1 i p e among) in
          let begun : (shown_of p).start ≡ Some (slice_index_or depots i d)
          = ap (λ (w : Shown S). w.start) (sym shows) ∙ (stays i v v within ∙ (ap (λ (ws : List (Shown S)). (slice_index_or ws i v).start) begins ∙ new_start depots i v d below)) in
          let same : out.start ≡ slice_index_or depots i d = from_some out.start (slice_index_or depots i d) (sym out.begins ∙ begun) in
          subst (λ (w : Shown S). ComesBy contents may_give texts faults (slice_index_or depots i d) w.seen (slice_index_or afters i e) × ((p : ℕ) → p < length w.seen → Has p w.book)) (sym shows)
          (subst (λ (x : DepotView S). ComesBy contents may_give texts faults x (shown_of p).seen (slice_index_or afters i e)) same out.comes, out.each)

  pub led : (depots afters : List (DepotView S)) (us : List (Shown S)) (lines : List Line) (passes : List (LibraryPass S)) → us ≡ map_list new_shown depots → Goes contents may_give texts faults us lines (all_shown passes)
      → AreClosed contents may_give texts faults passes afters → AreLedTo contents may_give texts faults depots (all_shown passes) afters
  led depots afters us lines passes begins goes closed = led_by depots afters us passes begins (stay_started us goes.all (all_shown passes) goes.leads) closed

  -- ---- the numbers that were read of the locks

  -- of each lock the pass read of no more turns than it took
  pub closed_within : (passes : List (LibraryPass S)) (afters : List (DepotView S)) → AreClosed contents may_give texts faults passes afters → AreWithin (map_list drawn_of passes) (all_shown passes)
  closed_within passes afters closed library n u at shown =
      let inside = slice_get_within (all_shown passes) library u shown in
      let size = length-map passes shown_of in
      let below : library < length passes = omega (arith, inside, size) in
      let p = (pass_at passes library u below).0 in
      let after = some_after afters library (subst (λ (m : ℕ). library < m) (sym closed.0) below) in
      let out = closed.1 library p after below in
      let read : n ≡ drawn_of (slice_index_or passes library p) = from_some n (drawn_of (slice_index_or passes library p)) (sym at ∙ get_map drawn_of passes library p below) in
      let taken : u ≡ shown_of (slice_index_or passes library p) = from_some u (shown_of (slice_index_or passes library p)) (sym shown ∙ get_map shown_of passes library p below) in
      let turns : u.turns ≡ turns_of (slice_index_or passes library p) = ap (λ (w : Shown S). w.turns) taken in
      let most = out.drawn in
      omega (arith, read, turns, most)
    where
      some_after : (afters : List (DepotView S)) (i : ℕ) → i < length afters → DepotView S
      some_after [] i short = absurd (omega (arith, short))
      some_after (d ∷ ds) i short = d

  -- ---- all of it

  -- so many come out as went in
  pub held_size : (shows : ℕ → Type 0) (depots afters : List (DepotView S)) (before now : LinkView) (status : ℕ) → HoldsHall contents may_give texts faults shows depots afters before now status
      → length afters ≡ length depots
  held_size shows depots afters before now status (held serves) = serves.each.0
  held_size shows depots afters before now status (not_held same is left) = same.0

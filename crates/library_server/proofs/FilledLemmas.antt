-- A library that comes out of a hall with one pass, after calls that nobody else made. The key lemmas are come_out, leads_out and fills_by.
use Rattle.std.proofs.Common.{◌≡◌, ◌<◌, ◌+◌, ℕ, List, [], ◌∷◌, ◌++◌, length, length-append, refl, sym, ap, ◌∙◌, subst, arith, Option, None, Some, option_map, Result, Ok, Err}
use Rattle.std.specs.Prelude.{IfErr, IfOk, min, slice_index_or, vec_len}
use Rattle.std.specs.FinMap as map
use Rattle.std.proofs.lemmas.List.{length-map}
use Rattle.ids.specs.Key.{Objects}
use Rattle.ids.proofs.BasicLemmas.{same_from_some}
use Rattle.library_rules.specs.LibraryState.{IsSound, State, head_of}
use Rattle.library_state.specs.declared.state.LibState.{LibState}
use Rattle.object_store.specs.Shelf.{Contents}
use Rattle.object_store.specs.StoreView.{objects_of}
use Rattle.object_store.specs.declared.shelf.Slot.{Slot}
use Rattle.depot.specs.DepotView.{DepotView, IsGood, running_library, state_of}
use Rattle.depot.specs.Story.{ComesBy}
use Rattle.depot.proofs.StoryLemmas.{same_state}
use Rattle.folder_storage.specs.Ground.{count_sum}
use Rattle.sync_calls.specs.Closing.{AreClosed, IsClosed}
use Rattle.sync_calls.specs.Collecting.{told as told_number}
use Rattle.sync_calls.specs.Hall.{AreReady, HallOf, PassOf, passes_in, rooms_of, shown_by}
use Rattle.sync_calls.specs.Making.{AreSame, new_shown}
use Rattle.sync_calls.specs.Shown.{LibraryPass, Shown, all_shown, library_after, library_at, shown_of}
use Rattle.sync_calls.proofs.ShownLemmas.{last_at}
use Rattle.turnstile.specs.PassView.{seen_of, start_of}
use Rattle.generated_library.specs.Filled.{IsFilled, IsNew}
use Rattle.generated_library.specs.Leading.{IsNow, IsOwn, Leads, WasHead}
use Rattle.generated_library.specs.Stopping.{EndsFor, WasCollected}
use Rattle.generated_library.specs.declared.asking.NotFilled.{NotFilled}
use Rattle.generated_library.specs.declared.filling.Filled.{Filled}
use Rattle.library_server.specs.Filling.{Fills, IsFilledFrom, IsLeft, IsNumbered, IsOwnedBy, LeadsOut, stopped, stored_by, told_of, whole}
use Rattle.library_server.proofs.StoppedLemmas.{collected_by, stopped_by}

-- ---- lists of one

pub one_of : {A : Type 0} (xs : List A) → length xs ≡ 1 → (x : A) × (xs ≡ x ∷ [])
one_of [] one = absurd (omega (arith, one))
one_of (x ∷ []) one = (x, refl)
one_of (x ∷ y ∷ xs) one = absurd (omega (arith, one))

first_same : {A : Type 0} (x y : A) → ◌≡◌ {A = List A} (x ∷ []) (y ∷ []) → x ≡ y
first_same x y e = cc

-- an item that was pushed to none
pub one_pushed : {A : Type 0} {none some : List A} {x : A} → none ≡ [] → some ≡ none ++ x ∷ [] → some ≡ x ∷ []
one_pushed {A} {none} {some} {x} is pushed = pushed ∙ ap (λ (xs : List A). xs ++ x ∷ []) is

-- the last of one item
pub last_alone : {A : Type 0} (xs front : List A) (x : A) → xs ≡ front ++ x ∷ [] → length xs ≡ 1 → xs ≡ x ∷ []
last_alone xs [] x is one = is
last_alone xs (y ∷ front) x is one = absurd (omega (arith, one, ap length is, length-append front (x ∷ [])))

-- ---- how many were stored

-- what is left and what was removed, as far as 64 bits go
sum_told : (most left removed gone before : ℕ) → removed ≡ min most gone → before ≡ left + gone → min (left + removed) most ≡ min most before
sum_told most left removed gone before is size = omega (arith, is, size)

pub stored_then : (left removed gone before : ℕ) → removed ≡ told_number gone → before ≡ left + gone → count_sum left removed ≡ told_number before
stored_then left removed gone before is size = sum_told 18446744073709551615 left removed gone before is size

module _ {S : Type 0} (contents : S → Option Contents) (faults : S → ℕ) where
  -- a library that is told has the state of its text
  state_told : (depot : DepotView S) (s : State) → state_of contents faults depot ≡ Some s → s.state ≡ depot.state
  state_told depot s = by (objects_of contents depot.store)
    where
      by : (known : Option Objects) → option_map (running_library depot.state depot.running (faults depot.store.shelf)) known ≡ Some s → s.state ≡ depot.state
      by None told = cc
      by (Some objects) told = ap (λ (z : State). z.state) (sym (same_from_some (running_library depot.state depot.running (faults depot.store.shelf) objects) s told))

  -- and the objects of its store
  pub objects_told : (depot : DepotView S) (s : State) → state_of contents faults depot ≡ Some s → objects_of contents depot.store ≡ Some s.objects
  objects_told depot s = by (objects_of contents depot.store)
    where
      by : (known : Option Objects) → option_map (running_library depot.state depot.running (faults depot.store.shelf)) known ≡ Some s → known ≡ Some s.objects
      by None told = cc
      by (Some objects) told = ap (λ (z : State). Some z.objects) (same_from_some (running_library depot.state depot.running (faults depot.store.shelf) objects) s told)

module _ {S : Type 0} (contents : S → Option Contents) (may_give : S → Slot → Option (List ℕ) → Type 0) (texts faults : S → ℕ) where
  -- ---- out of the hall

  -- one pass leads one library out of a hall, which began with this one
  pub record ComesOut (depot : DepotView S) (pass : PassOf S) (after : DepotView S) : Type 0 where
    pub to : LibraryPass S
    pub is : passes_in pass ≡ to ∷ []
    pub starts : start_of to ≡ Some depot
    pub closed : IsClosed contents may_give texts faults to after

  -- as many libraries come out as the hall has rooms
  pub alone_out : (hall : HallOf S) (old new : PassOf S) (u : Shown S) (afters : List (DepotView S)) → AreReady contents may_give texts faults hall old → shown_by old ≡ u ∷ []
      → AreReady contents may_give texts faults hall new → AreClosed contents may_give texts faults (passes_in new) afters → length afters ≡ 1
  alone_out hall old new u afters ready shows later closed =
      let mapped = length-map (passes_in old) shown_of in
      let counted : length (shown_by old) ≡ 1 = ap length shows in
      let ok = old.passes.ok.0 in
      let ok' = new.passes.ok.0 in
      let same = ready.size in
      let same' = later.size in
      let size = closed.0 in
      omega arith

  pub come_out : (hall : HallOf S) (old new : PassOf S) (depot after : DepotView S) (afters : List (DepotView S)) → AreReady contents may_give texts faults hall old → shown_by old ≡ new_shown depot ∷ []
      → AreReady contents may_give texts faults hall new → AreClosed contents may_give texts faults (passes_in new) afters → afters ≡ after ∷ [] → ComesOut depot new after
  come_out hall old new depot after afters ready shows later closed only =
      let mapped = length-map (passes_in old) shown_of in
      let counted : length (shown_by old) ≡ 1 = ap length shows in
      let ok = old.passes.ok.0 in
      let ok' = hall.rooms.ok.0 in
      let ok'' = new.passes.ok.0 in
      let same = ready.size in
      let same' = later.size in
      let within : 0 < vec_len hall.rooms = omega arith in
      let among : 0 < length (passes_in new) = omega arith in
      let r = one_of (rooms_of hall) (omega arith) in
      let p = one_of (passes_in old) (omega arith) in
      let q = one_of (passes_in new) (omega arith) in
      let shown : shown_of p.0 ≡ new_shown depot = first_same (shown_of p.0) (new_shown depot) (sym (ap (λ (ps : List (LibraryPass S)). all_shown ps) p.1) ∙ shows) in
      let begun : start_of (slice_index_or (passes_in old) 0 p.0) ≡ Some (slice_index_or (rooms_of hall) 0 r.0).start.value = (ready.each 0 r.0 p.0 within).begins in
      let begins : start_of (slice_index_or (passes_in new) 0 q.0) ≡ Some (slice_index_or (rooms_of hall) 0 r.0).start.value = (later.each 0 r.0 q.0 within).begins in
      let first : start_of p.0 ≡ Some depot = ap (λ (u : Shown S). u.start) shown in
      let was : start_of (slice_index_or (passes_in old) 0 p.0) ≡ start_of p.0 = ap (λ (ps : List (LibraryPass S)). start_of (slice_index_or ps 0 p.0)) p.1 in
      let now : start_of (slice_index_or (passes_in new) 0 q.0) ≡ start_of q.0 = ap (λ (ps : List (LibraryPass S)). start_of (slice_index_or ps 0 q.0)) q.1 in
      let out : IsClosed contents may_give texts faults (slice_index_or (passes_in new) 0 q.0) (slice_index_or afters 0 after) = closed.1 0 q.0 after among in
      record {
        to = q.0;
        is = q.1;
        starts = sym now ∙ begins ∙ sym begun ∙ was ∙ first;
        closed = subst (λ (ps : List (LibraryPass S)). IsClosed contents may_give texts faults (slice_index_or ps 0 q.0) after) q.1
            (subst (λ (ds : List (DepotView S)). IsClosed contents may_give texts faults (slice_index_or (passes_in new) 0 q.0) (slice_index_or ds 0 after)) only out);
      }

  pub leads_out : (depot : DepotView S) (pass : PassOf S) (after : DepotView S) (out : ComesOut depot pass after) → LeadsOut contents may_give texts faults depot out.to after
  leads_out depot pass after out =
      let same : out.closed.start ≡ depot = same_from_some out.closed.start depot (sym out.closed.begins ∙ out.starts) in
      record {
        begins = out.starts;
        comes = subst (λ (d : DepotView S). ComesBy contents may_give texts faults d (seen_of out.to) after) same out.closed.comes;
        each = out.closed.each;
        drawn = out.closed.drawn;
      }

  -- the library that comes out is the last one that was shown
  pub record LedOut (after : DepotView S) (R : State → State → Type 0) (s : State) : Type 0 where
    pub t : State
    pub told : state_of contents faults after ≡ Some t
    pub stands : R s t

  pub led_out : (depot after : DepotView S) (us : List (Shown S)) (pass : PassOf S) (P : State → Type 0) (R : State → State → Type 0) (s : State) → us ≡ new_shown depot ∷ []
      → ComesOut depot pass after → Leads contents faults us (shown_by pass) P R → state_of contents faults depot ≡ Some s → IsSound s → P s → LedOut after R s
  led_out depot after us pass P R s begins out leads told sound kind =
      let shown : shown_by pass ≡ shown_of out.to ∷ [] = ap (λ (ps : List (LibraryPass S)). all_shown ps) out.is in
      let own : IsOwn (shown_by pass) = record { only = shown_of out.to; is = shown; each = out.closed.each } in
      let first : IsNow contents faults us s = record { only = new_shown depot; is = begins; there = depot; stood = refl; told = told; sound = sound } in
      let to = leads.to own s first kind in
      let now = to.1 in
      let same_shown : shown_of out.to ≡ now.only = first_same (shown_of out.to) now.only (sym shown ∙ now.is) in
      let last = last_at contents may_give texts faults out.closed.start (seen_of out.to) after out.closed.comes.leads in
      let stood : library_at (shown_of out.to) (length (seen_of out.to)) ≡ Some last.there =
      ap (λ (o : Option (DepotView S)). library_after o (seen_of out.to) (length (seen_of out.to))) out.closed.begins ∙ last.stood in
      let here : library_at (shown_of out.to) (length (seen_of out.to)) ≡ Some now.there = ap (λ (u : Shown S). library_at u (length u.seen)) same_shown ∙ now.stood in
      let one : now.there ≡ last.there = same_from_some now.there last.there (sym here ∙ stood) in
      record {
        t = to.0;
        told = same_state last.same (subst (λ (d : DepotView S). state_of contents faults d ≡ Some to.0) one now.told);
        stands = to.2;
      }

  -- ---- what came of a filling

  module _ (shows : ℕ → Type 0) (count number : ℕ) where
    filled_from : (head : List ℕ) (depot after : DepotView S) (us : List (Shown S)) (pass : PassOf S) (out : ComesOut depot pass after) (what : Filled) (left : ℕ) (s : State)
        → head ≡ head_of depot.state.kept → us ≡ new_shown depot ∷ [] → IsLeft contents faults after left
        → LedOut after (λ s t. IsFilled (WasHead us (shown_by pass)) shows count number head what s t) s
        → IsFilledFrom contents faults shows count number s depot after out.to what (count_sum left what.removed)
    filled_from head depot after us pass out what left s is begins counts led =
        let shown : shown_by pass ≡ shown_of out.to ∷ [] = ap (λ (ps : List (LibraryPass S)). all_shown ps) out.is in
        let filled : IsFilled (WasHead (new_shown depot ∷ []) (shown_of out.to ∷ [])) shows count number (head_of depot.state.kept) what s led.t =
        subst (λ (h : List ℕ). IsFilled (WasHead (new_shown depot ∷ []) (shown_of out.to ∷ [])) shows count number h what s led.t) is
        (subst (λ (ws : List (Shown S)). IsFilled (WasHead ws (shown_of out.to ∷ [])) shows count number head what s led.t) begins
        (subst (λ (ws : List (Shown S)). IsFilled (WasHead us ws) shows count number head what s led.t) shown led.stands)) in
        record {
          t = led.t;
          told = led.told;
          filled = filled;
          size = stored_then left what.removed filled.gone (map.len filled.before) filled.removed (filled.size ∙ ap (λ n. n + filled.gone) (sym (counts.told led.t led.told)));
          sum = ap (λ (n : ℕ). count_sum n what.removed) (counts.told led.t led.told);
        }

    pub fills_by : (lib secret head : List ℕ) (depot after : DepotView S) (us : List (Shown S)) (pass : PassOf S) (result : Result Filled NotFilled) (left : ℕ)
        → lib ≡ depot.state.lib → IsOwnedBy depot.state.tokens secret → head ≡ head_of depot.state.kept → IsGood contents faults depot → us ≡ new_shown depot ∷ [] → ComesOut depot pass after
        → IfOk result (λ what. Leads contents faults us (shown_by pass) (IsNew head) (λ s t. IsFilled (WasHead us (shown_by pass)) shows count number head what s t))
        → IfOk result (IsNumbered shows count number) → IfOk result (λ what. WasCollected contents may_give texts faults lib secret shows what.removed pass) → IfErr result (EndsFor contents may_give texts faults lib secret count number shows pass) → IsLeft contents faults after left
        → Fills contents may_give texts faults shows count number secret depot after (stored_by (told_of after.state.collection result) left) (told_of after.state.collection result)
    fills_by lib secret head depot after us pass (Ok what) left named owned is good begins out leads numbers last stops counts =
        whole out.to (leads_out depot pass after out) what refl numbers (collected_by contents may_give texts faults shows lib secret depot pass out.to out.is out.starts named owned what.removed last)
        (ap (λ (n : ℕ). count_sum n what.removed) counts.known) (λ s told idle. filled_from head depot after us pass out what left s is begins counts
        (led_out depot after us pass (IsNew head) (λ s t. IsFilled (WasHead us (shown_by pass)) shows count number head what s t) s begins out leads told (good.sound s told) (idle, ap (λ (z : LibState). head_of z.kept) (state_told contents faults depot s told) ∙ sym is)))
    fills_by lib secret head depot after us pass (Err why) left named owned is good begins out leads numbers last stops counts =
        stopped out.to (leads_out depot pass after out) why refl
        (stopped_by contents may_give texts faults shows lib secret depot pass out.to out.is out.starts named owned count number why stops)

  -- ---- a library that no call was made of

  -- one that came back out of no hall
  pub same_out : (depot after : DepotView S) (depots afters : List (DepotView S)) → depots ≡ depot ∷ [] → afters ≡ after ∷ [] → AreSame contents may_give texts faults depots afters
      → ComesBy contents may_give texts faults depot [] after
  same_out depot after depots afters is out same =
      let here : AreSame contents may_give texts faults (depot ∷ []) (after ∷ []) = subst (λ (ds : List (DepotView S)). AreSame contents may_give texts faults ds (after ∷ [])) is
      (subst (λ (ds : List (DepotView S)). AreSame contents may_give texts faults depots ds) out same) in
      here.1 0 depot after (omega arith)

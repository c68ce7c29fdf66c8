-- A turn that sweeps, and what it leaves. The key lemmas are sweep_turn and sweep_stands.
use Rattle.std.proofs.Common.{◌≡◌, ◌≢◌, ◌⊎◌, inl, inr, ℕ, ◌≤◌, ◌&&◌, Bool, true, false, if◌then◌else◌, not, List, [], length, min, refl, sym, ap, ◌∙◌, subst, subst₂, true≢false, IsTrue, Option, None, Some, is_some, option_map, arith}
use Rattle.std.specs.Bool.{MatchBool}
use Rattle.std.specs.FinMap as map
use Rattle.std.specs.FinSet as set
use Rattle.std.proofs.lemmas.Bool.{false_from_ne_true}
use Rattle.ids.specs.FaultCount.{Rose}
use Rattle.ids.specs.Key.{Objects}
use Rattle.ids.specs.declared.key.Key.{Key}
use Rattle.library_rules.specs.Changes.{moved, swept, without}
use Rattle.library_rules.specs.History.{lone}
use Rattle.library_rules.specs.LibraryState.{IsSound, Running, State}
use Rattle.library_rules.specs.declared.entry.Step.TheVariants as step
use Rattle.library_state.specs.declared.refusal.Refusal.{Refusal}
use Rattle.library_state.specs.declared.reply.Reply.TheVariants as reply
use Rattle.library_state.specs.declared.state.LibState.{LibState}
use Rattle.library_state.specs.StateSpelling.{text_of}
use Rattle.object_graph.specs.Traversal.{is_in}
use Rattle.object_store.specs.Shelf.{Contents}
use Rattle.object_store.specs.Store.{is_free}
use Rattle.object_store.specs.StoreView.{Index, StoreView, objects_of, status_of}
use Rattle.object_store.specs.declared.error.StoreFault.{StoreFault}
use Rattle.object_store.specs.declared.error.StoreFault.TheVariants as store_fault
use Rattle.object_store.specs.declared.shelf.Slot.{Slot as ShelfSlot}
use Rattle.collector.specs.Collecting.{AreCandidates, Collects, LeavesCandidates}
use Rattle.collector.specs.Marks.{MarksView, is_candidate}
use Rattle.collector.specs.Sweeping.{StraysIf, Took}
use Rattle.collector.proofs.GoesOnLemmas.{stops_collect, sweeps_collect}
use Rattle.collector.proofs.StoredCandidatesLemmas.{taken_stored}
use Rattle.tree_walk.specs.KnownTrees.{Fits, KnownView}
use Rattle.depot.specs.Answering.{MayRefuseTree}
use Rattle.depot.specs.CollectionTurns.{IsAimed, IsToldNeeded, SettlesBefore, SweepsSo, TakesTurn, TurnSlotSo, removed_in, collection_after, turned_once}
use Rattle.depot.specs.DepotView.{CollectionView, FitsIn, Holds, IsKept, depot_of, library, running_library, state_of, KeepsMet}
use Rattle.depot.specs.Giving.{GivesBy, IsOfSweep}
use Rattle.depot.specs.ObjectCalls.{Counts, IsToldRefusal, is_of_store}
use Rattle.depot.specs.Refusals.{store_refusal}
use Rattle.depot.specs.Writing.{Slot, settled, written}
use Rattle.depot.specs.declared.turn.Turn.{Turn}
use Rattle.depot.specs.declared.turn.Turn.TheVariants.{Swept, Refused}
use Rattle.depot.proofs.AnsweringLemmas.{fault_of}
use Rattle.depot.proofs.CollectsLemmas.{collects_state}
use Rattle.depot.proofs.RefusalsLemmas.{counted_same, free_needed, free_told, refused_lays, told_damage}
use Rattle.depot.proofs.KnownLemmas.{fits_swept}
use Rattle.depot.proofs.TakesTurnLemmas.{as_due, collects_at, library_at, sound_at, told_by}
use Rattle.depot.proofs.ToldLemmas.{mapped_at}
use Rattle.depot.proofs.TurnLemmas.{fails_sweeping, refused_turn, swept_turn, turn_sound}

-- ---- small facts

took_are : {S : Type 0} {contents : S → Option Contents} {old new : StoreView S} {keys : List Key} (before after : MarksView) → Took contents old new before.candidates after.candidates keys
    → AreCandidates before keys × LeavesCandidates keys before after
took_are before after took = (record { each = took.each; once = took.once }, record { each = took.candidates; size = took.size })

some_keys : (keys : List Key) (at_most left : ℕ) → length keys ≡ min at_most left → 1 ≤ at_most → left ≢ 0 → keys ≢ []
some_keys keys at_most left size least some none = some (let empty : length keys ≡ 0 = ap length none in omega (arith, size, least, empty))

free_cause : (index : Index) (gives : ShelfSlot → Option (List ℕ) → Type 0) (fault : StoreFault) → IsTrue (is_free fault) → MayRefuseTree index gives (store_refusal fault)
free_cause index gives store_fault.Shelf free = tt
free_cause index gives store_fault.NoMemory free = tt
free_cause index gives other free = absurd (true≢false (sym free))

module _ {S : Type 0} (contents : S → Option Contents) (may_give : S → ShelfSlot → Option (List ℕ) → Type 0) (texts faults : S → ℕ) (store new : StoreView S) (state : LibState) (unsettled still : Bool)
    (before after : CollectionView) (known : KnownView) (kept : IsKept contents faults (depot_of store state unsettled (Some before)) known (Some before))
    (none_waits : before.marks.pending ≡ []) where
  abbrev rest_at : Objects → State
  rest_at objects = library state (faults store.shelf) objects

  abbrev at : Objects → State
  at objects = library_at contents may_give texts faults store new state unsettled before after known kept objects

  sound_there : (objects : Objects) → objects_of contents store ≡ Some objects → IsSound (at objects)
  sound_there = sound_at contents may_give texts faults store new state unsettled before after known kept

  collects_there : (objects : Objects) → objects_of contents store ≡ Some objects → Collects (at objects) before.running before.marks
  collects_there = collects_at contents may_give texts faults store new state unsettled before after known kept

  left_as : (keys : List Key) (running : Running) (now : ℕ) (objects : Objects) → Took contents store new before.marks.candidates after.marks.candidates keys → objects_of contents store ≡ Some objects
      → after.running ≡ running → faults new.shelf ≡ now → state_of contents faults (depot_of new state still (Some after)) ≡ Some (running_library state (Some running) now (without objects keys))
  left_as keys running now objects took told runs counts =
      ap (option_map (running_library state (Some after.running) (faults new.shelf))) (took.objects ∙ ap (option_map (λ (o : Objects). without o keys)) told)
      ∙ ap (λ (n : ℕ). Some (running_library state (Some after.running) n (without objects keys))) counts
      ∙ ap (λ (r : Running). Some (running_library state (Some r) now (without objects keys))) runs

  -- ---- keys left

  sweeps_takes : (goal : Option ℕ) (moment at_most : ℕ) (keys : List Key) → IsAimed goal state.collection → 1 ≤ at_most → map.len before.marks.candidates ≢ 0
      → SweepsSo contents may_give texts faults store before at_most (Swept keys) new after → GivesBy (IsOfSweep state.lib keys) (may_give store.shelf) (may_give new.shelf)
      → TurnSlotSo moment (Swept keys) unsettled state (status_of contents store) still (status_of contents new) (texts store.shelf) (texts new.shelf)
      → SettlesBefore unsettled state (status_of contents store) still (status_of contents new) keys
      → TakesTurn contents may_give texts faults (depot_of store state unsettled (Some before)) goal moment at_most (Swept keys) (depot_of new state still (Some after))
  sweeps_takes goal moment at_most keys aimed least left (size, sweeps) gives slot settles = record {
    told = told_by contents may_give texts faults store new state unsettled before after known kept goal moment at_most (Swept keys) (state_of contents faults (depot_of new state still (Some after))) (λ objects told.
        let are = took_are before.marks after.marks sweeps.took in
        let turn = swept_turn (rest_at objects) before.running before.marks (sound_there objects told) (collects_there objects told) moment none_waits keys are.0
        (some_keys keys at_most (map.len before.marks.candidates) size least left) in
        record {
          state = running_library state (Some (turned_once before.running)) (faults store.shelf) (without objects keys);
          entries = turn.0;
          left = left_as keys (turned_once before.running) (faults store.shelf) objects sweeps.took told sweeps.runs sweeps.count;
          turns = (some_keys keys at_most (map.len before.marks.candidates) size least left, omega (arith, size), turn.1);
        });
    may_come = as_due store.index (may_give new.shelf) before.running state.collection goal (Swept keys) aimed (λ idle. runs_some idle)
        (λ key there. kept.apart key (sweeps.took.each key there));
    damage = λ objects told. tt;
    needed = λ s told. tt;
    count = sweeps.count;
    left = refl;
    runs = ap Some sweeps.runs;
    marked = ap length sweeps.same.marked;
    index = sweeps.took.index;
    number = sweeps.took.held;
    lying = sweeps.lying;
    gives = gives;
    slot = slot;
    beside = λ runs. settles;
  }
    where
      runs_some : {running : Running} → Some running ≡ None → ⊥
      runs_some e = cc

  -- ---- the turn was refused, and what left is told

  stops_takes : (goal : Option ℕ) (moment at_most : ℕ) (why : Refusal) (keys : List Key) → IsAimed goal state.collection
      → SweepsSo contents may_give texts faults store before at_most (Refused why keys) new after → GivesBy (IsOfSweep state.lib keys) (may_give store.shelf) (may_give new.shelf)
      → TurnSlotSo moment (Refused why keys) unsettled state (status_of contents store) still (status_of contents new) (texts store.shelf) (texts new.shelf)
      → SettlesBefore unsettled state (status_of contents store) still (status_of contents new) keys
      → TakesTurn contents may_give texts faults (depot_of store state unsettled (Some before)) goal moment at_most (Refused why keys) (depot_of new state still (Some after))
  stops_takes goal moment at_most why keys aimed (few, fault, refusal, free, sweeps) gives slot settles = record {
    told = told_by contents may_give texts faults store new state unsettled before after known kept goal moment at_most (Refused why keys) (state_of contents faults (depot_of new state still (Some after))) (λ objects told.
        let are = took_are before.marks after.marks sweeps.took in
        let refused = refused_turn (rest_at objects) before.running before.marks (sound_there objects told) (collects_there objects told) moment why keys (faults new.shelf)
        (fails_sweeping (rest_at objects) before.running before.marks (sound_there objects told) (collects_there objects told) moment why keys (faults new.shelf) none_waits are.0
        (fault_of (at objects) (record (lone (at objects) step.Swept moment (reply.Refused why)) { removed = keys; faults = faults new.shelf }) why (told_why objects) counts)) in
        record {
          state = running_library state (Some before.running) (faults new.shelf) (without objects keys);
          entries = refused.0;
          left = left_as keys before.running (faults new.shelf) objects sweeps.took told sweeps.runs refl;
          turns = (few, refused.1);
        });
    may_come = as_due store.index (may_give new.shelf) before.running state.collection goal (Refused why keys) aimed
        (subst (MayRefuseTree store.index (may_give new.shelf)) (sym refusal) (free_cause store.index (may_give new.shelf) fault free))
        (λ key there. kept.apart key (sweeps.took.each key there));
    damage = λ objects told. told_damage objects why (told_why objects);
    needed = λ s told. subst (λ (w : Refusal). IsToldNeeded s (Refused w keys)) (sym refusal) (free_needed s keys fault free);
    count = counts;
    left = refl;
    runs = ap Some sweeps.runs;
    marked = (let same : length after.marks.marked ≡ length before.marks.marked = ap length sweeps.same.marked in omega (arith, same));
    index = sweeps.took.index;
    number = sweeps.took.held;
    lying = subst (λ (b : Bool). StraysIf b contents store new keys) (counted_same fault ∙ sym (ap is_of_store refusal)) sweeps.lying;
    gives = refused_lays state.lib why keys fault (may_give store.shelf) (may_give new.shelf) refusal free gives;
    slot = slot;
    beside = λ runs. settles;
  }
    where
      told_why : (objects : Objects) → IsToldRefusal objects why
      told_why objects = subst (IsToldRefusal objects) (sym refusal) (free_told objects fault free)

      counts : Counts (faults store.shelf) (faults new.shelf) (reply.Refused why)
      counts =
          subst (λ (b : Bool). MatchBool b ((faults store.shelf ≤ faults new.shelf) × Rose (faults store.shelf) (faults new.shelf)) (faults new.shelf ≡ faults store.shelf))
          (counted_same fault ∙ sym (ap is_of_store refusal)) sweeps.count

  pub sweep_turn : (goal : Option ℕ) (moment at_most : ℕ) (turn : Turn) (later : LibState) → IsAimed goal state.collection → 1 ≤ at_most → map.len before.marks.candidates ≢ 0
      → SweepsSo contents may_give texts faults store before at_most turn new after → later ≡ state → GivesBy (IsOfSweep state.lib (removed_in turn)) (may_give store.shelf) (may_give new.shelf)
      → TurnSlotSo moment turn unsettled state (status_of contents store) still (status_of contents new) (texts store.shelf) (texts new.shelf)
      → SettlesBefore unsettled state (status_of contents store) still (status_of contents new) (removed_in turn)
      → TakesTurn contents may_give texts faults (depot_of store state unsettled (Some before)) goal moment at_most turn (depot_of new later still (collection_after turn after))
  sweep_turn goal moment at_most turn later aimed least left so same gives slot settles =
      subst (λ (l : LibState). TakesTurn contents may_give texts faults (depot_of store state unsettled (Some before)) goal moment at_most turn (depot_of new l still (collection_after turn after))) (sym same)
      (by turn so gives slot settles)
    where
      by : (t : Turn) → SweepsSo contents may_give texts faults store before at_most t new after → GivesBy (IsOfSweep state.lib (removed_in t)) (may_give store.shelf) (may_give new.shelf)
          → TurnSlotSo moment t unsettled state (status_of contents store) still (status_of contents new) (texts store.shelf) (texts new.shelf)
          → SettlesBefore unsettled state (status_of contents store) still (status_of contents new) (removed_in t)
          → TakesTurn contents may_give texts faults (depot_of store state unsettled (Some before)) goal moment at_most t (depot_of new state still (collection_after t after))
      by (Swept keys) sweeps gives_so slot_so settles_so = sweeps_takes goal moment at_most keys aimed least left sweeps gives_so slot_so settles_so
      by (Refused why keys) stops gives_so slot_so settles_so = stops_takes goal moment at_most why keys aimed stops gives_so slot_so settles_so
      by other none gives_so slot_so settles_so = absurd none

  -- ---- the invariant after a sweep

  module _ (keys : List Key) (took : Took contents store new before.marks.candidates after.marks.candidates keys) where
    known_after : (key : Key) → is_candidate after.marks key ≡ true → is_some (map.get new.index key) ≡ true
    known_after = taken_stored contents store new before.marks after.marks keys took kept.candidates

    -- a key that is fresh is no candidate, and stays
    fresh_known : ((key : Key) → set.contains after.running.fresh key ≡ set.contains before.running.fresh key) → ((key : Key) → set.contains before.running.fresh key ≡ true → is_in keys key ≡ false)
        → (key : Key) → set.contains after.running.fresh key ≡ true → is_some (map.get new.index key) ≡ true
    fresh_known fresh apart key is =
        let was : set.contains before.running.fresh key ≡ true = sym (fresh key) ∙ is in
        ap is_some (took.index key ∙ ap (λ (b : Bool). if b then None else map.get store.index key) (apart key was)) ∙ kept.good.fresh key was

    -- what was told is what is told now, with the keys
    there_before : (now : Objects) → objects_of contents new ≡ Some now → (there : Objects) × (objects_of contents store ≡ Some there) × (now ≡ without there keys)
    there_before now told =
        let at_first = mapped_at (λ (o : Objects). without o keys) (objects_of contents store) now (sym took.objects ∙ told) in
        (at_first.value, at_first.is, sym at_first.gives)

    own_text : (slot : Slot) (status : Option (List ℕ)) → written state slot ≡ Some status → status ≡ Some (text_of state)
    own_text None status e = cc
    own_text (Some held) status e = sym (same_status e)
      where
        same_status : {x y : Option (List ℕ)} → Some x ≡ Some y → x ≡ y
        same_status q = cc

    holds_own : (flag : Bool) (now : Objects) (status : Option (List ℕ)) → status ≡ Some (text_of state) → Holds flag state now status
    holds_own false now status text = text
    holds_own true now status text = inl text

    -- once it was settled the slot has the state's text
    settled_text : (flag : Bool) (now : Objects) (status : Option (List ℕ)) → ((st : Option (List ℕ)) → status_of contents store ≡ Some st → Holds flag state now st)
        → settled flag state (status_of contents store) ≡ Some status → status ≡ Some (text_of state)
    settled_text false now status holds is = holds status is
    settled_text true now status holds is = own_text (status_of contents store) status is

    text_after : SettlesBefore unsettled state (status_of contents store) still (status_of contents new) keys → (now : Objects) (status : Option (List ℕ)) → objects_of contents new ≡ Some now
        → status_of contents new ≡ Some status → Holds still state now status
    text_after (inl (flag, slot)) now status told is =
        let was = there_before now told in
        holds_own still now status (settled_text unsettled was.0 status (λ st at_store. kept.good.text was.0 st was.1 at_store) (sym slot ∙ is))
    text_after (inr (none, same_flag, inr is_written)) now status told is = holds_own still now status (own_text (status_of contents store) status (sym is_written.text ∙ is))
    text_after (inr (none, same_flag, inl same_slot)) now status told is =
        let was = there_before now told in
        subst₂ (λ (f : Bool) (o : Objects). Holds f state o status) (sym same_flag) (sym (was.2 ∙ ap (without was.0) none)) (kept.good.text was.0 status was.1 (sym same_slot ∙ is))

    fits_after : (later : KnownView) → ((later ≡ known) × (keys ≡ [])) ⊎ KeepsMet before.marks known later → FitsIn contents new later
    fits_after later (inr met) now told =
        let was = there_before now told in
        subst (λ (o : Objects). Fits o later) (sym was.2)
        (fits_swept (at was.0) before.running before.marks keys known later (sound_there was.0 was.1) (collects_there was.0 was.1) none_waits took.each (kept.fits was.0 was.1) met)
    fits_after later (inl (same, none)) now told =
        let was = there_before now told in
        subst₂ (λ (o : Objects) (k : KnownView). Fits o k) (sym (was.2 ∙ ap (without was.0) none)) (sym same) (kept.fits was.0 was.1)

    -- a key that is fresh was, and is no candidate
    fresh_apart : (key : Key) → set.contains before.running.fresh key ≡ true → is_in keys key ≡ false
    fresh_apart key is = false_from_ne_true (is_in keys key) (λ among. true≢false (sym is ∙ kept.apart key (took.each key among)))

    swept_kept : (later : KnownView) → ((later ≡ known) × (keys ≡ [])) ⊎ KeepsMet before.marks known later → SettlesBefore unsettled state (status_of contents store) still (status_of contents new) keys
        → ((key : Key) → set.contains after.running.fresh key ≡ set.contains before.running.fresh key)
        → ((there : Objects) → objects_of contents store ≡ Some there → Collects (running_library state (Some after.running) (faults new.shelf) (without there keys)) after.running after.marks)
        → ((t : State) → state_of contents faults (depot_of new state still (Some after)) ≡ Some t → IsSound t) → IsKept contents faults (depot_of new state still (Some after)) later (Some after)
    swept_kept later knows settles fresh collects sound = record {
      good = record {
        head = kept.good.head;
        reads = kept.good.reads;
        fresh = λ key is. fresh_known fresh fresh_apart key is;
        sound = sound;
        text = text_after settles;
      };
      fits = fits_after later knows;
      collects = λ t is.
          let at_now = mapped_at (running_library state (Some after.running) (faults new.shelf)) (objects_of contents new) t is in
          let was = there_before at_now.value at_now.is in
          subst (λ (u : State). Collects u after.running after.marks) at_now.gives
          (subst (λ (o : Objects). Collects (running_library state (Some after.running) (faults new.shelf) o) after.running after.marks) (sym was.2) (collects was.0 was.1));
      candidates = known_after;
      apart = λ key there. fresh key ∙ kept.apart key (and_left (is_candidate before.marks key) (not (is_in keys key)) (sym (took.candidates key) ∙ there));
    }
      where
        and_left : (a b : Bool) → (a && b) ≡ true → a ≡ true
        and_left true b e = refl
        and_left false b e = e

  -- a turn leaves a sound library
  sound_after : (goal : Option ℕ) (moment at_most : ℕ) (turn : Turn) (keys : List Key) → Took contents store new before.marks.candidates after.marks.candidates keys
      → TakesTurn contents may_give texts faults (depot_of store state unsettled (Some before)) goal moment at_most turn (depot_of new state still (Some after))
      → (t : State) → state_of contents faults (depot_of new state still (Some after)) ≡ Some t → IsSound t
  sound_after goal moment at_most turn keys took takes t is =
      let at_now = mapped_at (running_library state (Some after.running) (faults new.shelf)) (objects_of contents new) t is in
      let was = there_before keys took at_now.value at_now.is in
      let tells = takes.told (at was.0) (ap (option_map (running_library state (Some before.running) (faults store.shelf))) was.1) in
      subst IsSound (same_state (sym tells.left ∙ is)) (turn_sound (at was.0) goal moment at_most turn tells.state tells.entries (sound_there was.0 was.1) tells.turns)
    where
      same_state : {x y : State} → Some x ≡ Some y → x ≡ y
      same_state e = cc

  pub sweep_stands : (at_most : ℕ) (turn : Turn) (later : LibState) (knows : KnownView) → 1 ≤ at_most → map.len before.marks.candidates ≢ 0 → SweepsSo contents may_give texts faults store before at_most turn new after
      → later ≡ state → GivesBy (IsOfSweep state.lib (removed_in turn)) (may_give store.shelf) (may_give new.shelf)
      → ((moment : ℕ) → TurnSlotSo moment turn unsettled state (status_of contents store) still (status_of contents new) (texts store.shelf) (texts new.shelf))
      → SettlesBefore unsettled state (status_of contents store) still (status_of contents new) (removed_in turn) → ((knows ≡ known) × (removed_in turn ≡ [])) ⊎ KeepsMet before.marks known knows
      → IsKept contents faults (depot_of new later still (Some after)) knows (Some after)
  sweep_stands at_most turn later knows least left so same gives slot settles knows_so =
      subst (λ (l : LibState). IsKept contents faults (depot_of new l still (Some after)) knows (Some after)) (sym same) (by turn so gives (slot 0) settles knows_so)
    where
      by : (t : Turn) → SweepsSo contents may_give texts faults store before at_most t new after → GivesBy (IsOfSweep state.lib (removed_in t)) (may_give store.shelf) (may_give new.shelf)
          → TurnSlotSo 0 t unsettled state (status_of contents store) still (status_of contents new) (texts store.shelf) (texts new.shelf)
          → SettlesBefore unsettled state (status_of contents store) still (status_of contents new) (removed_in t) → ((knows ≡ known) × (removed_in t ≡ [])) ⊎ KeepsMet before.marks known knows
          → IsKept contents faults (depot_of new state still (Some after)) knows (Some after)
      by (Swept keys) (size, sweeps) gives_so slot_so settles_so knows_it =
          let are = took_are before.marks after.marks sweeps.took in
          swept_kept keys sweeps.took knows knows_it settles_so (λ key. ap (λ (r : Running). set.contains r.fresh key) sweeps.runs)
          (λ there told.
          subst (λ (r : Running). Collects (running_library state (Some r) (faults new.shelf) (without there keys)) r after.marks) (sym sweeps.runs)
          (collects_state (swept false (moved (at there) [] keys)) state (faults new.shelf) (turned_once before.running) after.marks refl
          (sweeps_collect (at there) before.running before.marks after.marks keys (sound_there there told) (collects_there there told) none_waits are.0 sweeps.same are.1
          (some_keys keys at_most (map.len before.marks.candidates) size least left))))
          (sound_after None 0 at_most (Swept keys) keys sweeps.took (sweeps_takes None 0 at_most keys tt least left (size, sweeps) gives_so slot_so settles_so))
      by (Refused why keys) (few, fault, refusal, free, sweeps) gives_so slot_so settles_so knows_it =
          let are = took_are before.marks after.marks sweeps.took in
          swept_kept keys sweeps.took knows knows_it settles_so (λ key. ap (λ (r : Running). set.contains r.fresh key) sweeps.runs)
          (λ there told.
          subst (λ (r : Running). Collects (running_library state (Some r) (faults new.shelf) (without there keys)) r after.marks) (sym sweeps.runs)
          (collects_state (moved (at there) [] keys) state (faults new.shelf) before.running after.marks refl
          (stops_collect (at there) before.running before.marks after.marks keys (sound_there there told) (collects_there there told) none_waits are.0 sweeps.same are.1)))
          (sound_after None 0 at_most (Refused why keys) keys sweeps.took (stops_takes None 0 at_most why keys tt (few, fault, refusal, free, sweeps) gives_so slot_so settles_so))
      by other none gives_so slot_so settles_so knows_it = absurd none

-- A call that leaves the objects and the collection as they are. The key lemmas are serves_same, good_same, kept_same
-- and kept_read, and kept_shielded of one that shields keys.
use Rattle.std.proofs.Common.{◌≡◌, ◌⊎◌, inl, inr, ◌&&◌, ◌||◌, not, ℕ, Bool, true, false, true≢false, if◌then◌else◌, List, [], refl, sym, ap, ◌∙◌, subst, Option, None, Some, is_some, option_map, Result, Ok, Err}
use Rattle.std.specs.Prelude.{⊤, OnErr, OnOk}
use Rattle.std.specs.FinMap as map
use Rattle.std.specs.FinSet as set
use Rattle.std.proofs.lemmas.Bool.{or_cases, or_left, or_right}
use Rattle.ids.specs.Key.{Objects}
use Rattle.ids.specs.declared.key.Key.{Key}
use Rattle.library_rules.specs.Changes.{is_refused}
use Rattle.library_rules.specs.LibraryState.{IsSound, Running, State, is_fresh, is_stored}
use Rattle.library_rules.proofs.BesideStepLemmas.{told_after, told_keys}
use Rattle.library_rules.proofs.KeepingLemmas.{stored_then}
use Rattle.library_state.specs.declared.call.Act.{Act}
use Rattle.library_state.specs.declared.call.Call.{Call}
use Rattle.library_state.specs.declared.reply.Reply.{Reply}
use Rattle.library_state.specs.declared.state.LibState.{LibState}
use Rattle.object_graph.specs.Traversal.{is_in}
use Rattle.object_graph.specs.Unchanged.{Keeps}
use Rattle.object_store.specs.Shelf.{Contents}
use Rattle.object_store.specs.StoreView.{Index, StoreView, Keeps as StoreKeeps, objects_of}
use Rattle.object_store.specs.declared.error.StoreFault.{StoreFault}
use Rattle.object_store.specs.declared.shelf.Slot.{Slot as ShelfSlot}
use Rattle.collector.specs.Collecting.{Collects}
use Rattle.collector.specs.Marks.{AreMarks, HasTheSameMarks, is_candidate}
use Rattle.collector.proofs.GoesOnLemmas.{shields_collect}
use Rattle.tree_walk.specs.KnownTrees.{KnownView}
use Rattle.depot.specs.Answering.{Serves}
use Rattle.depot.specs.DepotView.{CollectionView, CollectsIn, DepotView, FitsIn, IsGood, IsKept, KnowsCandidates, at_rest, running_library, state_of}
use Rattle.depot.specs.FreshKeys.{told_there}
use Rattle.depot.proofs.BesideLemmas.{FreshTold, good_beside, good_rest, serves_beside}
use Rattle.depot.proofs.CallFreshLemmas.{same_fresh, same_runs}
use Rattle.depot.proofs.CollectsLemmas.{collects_state, shields_fresh}
use Rattle.depot.proofs.FitsLemmas.{fits_same}
use Rattle.depot.proofs.FreshLemmas.{RunsAs, as_before, runs_still_as}
use Rattle.depot.proofs.GrownLemmas.{good_kept, kept_status}
use Rattle.depot.proofs.ToldLemmas.{mapped_at}

-- an act that tells of no key tells of none, refused or not
pub untold : (now : Objects) (a : Act) (r : Reply) → told_keys now a r ≡ [] → told_after now a r ≡ []
untold now a r none = by (is_refused r)
  where
    by : (b : Bool) → (if b then [] else told_keys now a r) ≡ []
    by true = refl
    by false = none

-- a call that makes a state of the same head updates, or is refused, leaves them
pub kept_by : (result : Result ⊤ StoreFault) (before next after : LibState) → next.kept ≡ before.kept → OnOk result (after ≡ next) → OnErr result (after ≡ before) → after.kept ≡ before.kept
kept_by (Ok done) before next after same ok err = ap (λ (st : LibState). st.kept) ok ∙ same
kept_by (Err fault) before next after same ok err = ap (λ (st : LibState). st.kept) err

module _ {S : Type 0} (contents : S → Option Contents) (faults : S → ℕ) (old new : DepotView S) (same_index : new.store.index ≡ old.store.index)
    (same_objects : objects_of contents new.store ≡ objects_of contents old.store) where
  -- what is served where no collection runs is served beside one that stays as it is
  pub serves_same : (may_give : S → ShelfSlot → Option (List ℕ) → Type 0) (texts : S → ℕ) (call : Call) (moment : ℕ) (r : Reply) → new.running ≡ old.running → new.marked ≡ old.marked
      → told_there old.store.index call.act r ≡ [] → ((now : Objects) → told_keys now call.act r ≡ []) → Serves contents may_give texts faults (at_rest old) call moment r (at_rest new)
      → Serves contents may_give texts faults old call moment r new
  serves_same may_give texts call moment r same marks none_there none_told rest =
      let runs = subst (λ o. RunsAs as_before old.running o) (sym same) (runs_still_as old.running) in
      serves_beside contents faults old new call moment r
      (same_runs old.store.index new.store.index old.running new.running (told_there old.store.index call.act r) same_index none_there runs)
      (same_fresh contents old new call.act r same_objects (λ now. untold now call.act r (none_told now)) runs) may_give texts marks rest

  pub good_same : IsGood contents faults old → new.running ≡ old.running → IsGood contents faults (at_rest new) → IsGood contents faults new
  good_same good same rest = good_beside contents faults new rest
      (λ key fresh. ap (λ (i : Index). is_some (map.get i key)) same_index ∙ good.fresh key (subst (λ o. is_fresh o key ≡ true) same fresh))
      (λ objects told key fresh.
      (good.sound (running_library old.state old.running (faults old.store.shelf) objects) (ap (option_map (running_library old.state old.running (faults old.store.shelf))) (sym same_objects ∙ told))).kept.fresh_stored
      key (subst (λ o. is_fresh o key ≡ true) same fresh))

  pub kept_same : (known later : KnownView) (collection : Option CollectionView) → IsKept contents faults old known collection → IsGood contents faults new → FitsIn contents new.store later
      → new.state.kept ≡ old.state.kept → new.running ≡ old.running → IsKept contents faults new later collection
  kept_same known later collection kept good fits same_kept same = record {
    good = good;
    fits = fits;
    collects = λ s is.
        let at = mapped_at (running_library new.state new.running (faults new.store.shelf)) (objects_of contents new.store) s is in
        let before : State = running_library old.state old.running (faults old.store.shelf) at.value in
        subst (λ (t : State). CollectsIn t collection) at.gives
        (subst (λ o. CollectsIn (running_library new.state o (faults new.store.shelf) at.value) collection) (sym same)
        (by collection before same_kept (kept.collects before (ap (option_map (running_library old.state old.running (faults old.store.shelf))) (sym same_objects ∙ at.is)))));
    candidates = subst (λ i. KnowsCandidates i collection) (sym same_index) kept.candidates;
    apart = kept.apart;
  }
    where
      by : (c : Option CollectionView) (s : State) → new.state.kept ≡ s.state.kept → CollectsIn s c → CollectsIn (record s { state = new.state; faults = faults new.store.shelf }) c
      by None s kept_is collects = tt
      by (Some c) s kept_is collects = collects_state s new.state (faults new.store.shelf) c.running c.marks kept_is collects

module _ {S : Type 0} (contents : S → Option Contents) (faults : S → ℕ) (old new : DepotView S) (a : Act) (r : Reply) (fresh : FreshTold contents old new a r)
    (grown : (was now : Objects) → objects_of contents old.store ≡ Some was → objects_of contents new.store ≡ Some now → Keeps was now) where
  -- what is fresh then is stored, where what was told is
  pub fresh_stored : (before after : Running) (was now : Objects) → IsSound (running_library old.state (Some before) (faults old.store.shelf) was) → old.running ≡ Some before → new.running ≡ Some after
      → objects_of contents old.store ≡ Some was → objects_of contents new.store ≡ Some now → ((key : Key) → is_in (told_after now a r) key ≡ true → is_stored now key ≡ true)
      → (key : Key) → set.contains after.fresh key ≡ true → is_stored now key ≡ true
  fresh_stored before after was now sound is_before is_after told_was told_now told key is =
      by (or_cases (set.contains before.fresh key) ((is_stored now key && not (is_stored was key)) || is_in (told_after now a r) key) (sym (fresh.each before after was now is_before is_after told_was told_now key) ∙ is))
    where
      both : (b c : Bool) → (b && c) ≡ true → b ≡ true
      both true c e = refl
      both false c e = e

      later : ((is_stored now key && not (is_stored was key)) ≡ true) ⊎ (is_in (told_after now a r) key ≡ true) → is_stored now key ≡ true
      later (inl came) = both (is_stored now key) (not (is_stored was key)) came
      later (inr among) = told key among

      by : (set.contains before.fresh key ≡ true) ⊎ (((is_stored now key && not (is_stored was key)) || is_in (told_after now a r) key) ≡ true) → is_stored now key ≡ true
      by (inl old_fresh) = stored_then was now (grown was now told_was told_now) key (sound.kept.fresh_stored key old_fresh)
      by (inr more) = later (or_cases (is_stored now key && not (is_stored was key)) (is_in (told_after now a r) key) more)

-- ---- a call that keeps the same head updates, and shields keys that are fresh then

module _ {S : Type 0} (contents : S → Option Contents) (faults : S → ℕ) (old new : DepotView S) (a : Act) (r : Reply) (keys : List Key)
    (same_state : new.state ≡ old.state) (fresh : FreshTold contents old new a r)
    (grown : (was now : Objects) → objects_of contents old.store ≡ Some was → objects_of contents new.store ≡ Some now → Keeps was now)
    (was_told : (now : Objects) → objects_of contents new.store ≡ Some now → (was : Objects) × (objects_of contents old.store ≡ Some was)) where
  -- the marks are those of the collection still
  pub collects_shielded : (before after : CollectionView) → old.running ≡ Some before.running → new.running ≡ Some after.running
      → (after.running.stored ≡ before.running.stored) × (after.running.turned ≡ before.running.turned)
      → ((s : State) → state_of contents faults old ≡ Some s → IsSound s) → ((s : State) → state_of contents faults new ≡ Some s → IsSound s)
      → ((s : State) → state_of contents faults old ≡ Some s → Collects s before.running before.marks) → (AreMarks before.marks → AreMarks after.marks) → HasTheSameMarks before.marks after.marks
      → ((key : Key) → is_candidate after.marks key ≡ (is_candidate before.marks key && not (is_in keys key))) → ((key : Key) → is_in keys key ≡ true → set.contains after.running.fresh key ≡ true)
      → ((now : Objects) → objects_of contents new.store ≡ Some now → (key : Key) → is_in (told_after now a r) key ≡ true → (set.contains before.running.fresh key ≡ true) ⊎ (is_in keys key ≡ true))
      → (t : State) → state_of contents faults new ≡ Some t → Collects t after.running after.marks
  collects_shielded before after is_before is_after numbers sound_old sound_new collects good marks candidates within told t is =
      let at = mapped_at (running_library new.state new.running (faults new.store.shelf)) (objects_of contents new.store) t is in
      let was = was_told at.value at.is in
      let s : State = running_library old.state old.running (faults old.store.shelf) was.0 in
      let told_s : state_of contents faults old ≡ Some s = ap (option_map (running_library old.state old.running (faults old.store.shelf))) was.1 in
      let u : State = running_library new.state new.running (faults new.store.shelf) at.value in
      let told_u : state_of contents faults new ≡ Some u = ap (option_map (running_library new.state new.running (faults new.store.shelf))) at.is in
      let c = collects s told_s in
      subst (λ (v : State). Collects v after.running after.marks) at.gives
      (shields_collect s u before.running after.running before.marks after.marks (sound_old s told_s) c (good c.good)
      (shields_fresh s u before.running after.running before.marks after.marks (sound_old s told_s) (ap (λ (st : LibState). st.kept) same_state) (grown was.0 at.value was.1 at.is) is_after numbers
      (λ key now_there was_gone. fresh_now was.0 at.value was.1 at.is key (inr (or_left (is_stored at.value key && not (is_stored was.0 key)) (is_in (told_after at.value a r) key) (came_now (is_stored at.value key) (is_stored was.0 key) now_there was_gone))))
      (λ key old_fresh. fresh_now was.0 at.value was.1 at.is key (inl old_fresh))
      marks
      (λ key there. left_one (is_candidate before.marks key) (not (is_in keys key)) (sym (candidates key) ∙ there))
      (λ key is_fresh. candidates key ∙ gone key (is_candidate before.marks key) (is_in keys key) refl refl (fresh_case was.0 at.value was.1 at.is key is_fresh) c)
      (λ key there gone. within key (taken (is_candidate before.marks key) (is_in keys key) there (sym (candidates key) ∙ gone)))))
    where
      came_now : (b c : Bool) → b ≡ true → c ≡ false → (b && not c) ≡ true
      came_now true false e f = refl
      came_now true true e f = absurd (true≢false f)
      came_now false c e f = absurd (true≢false (sym e))

      left_one : (b c : Bool) → (b && c) ≡ true → b ≡ true
      left_one true c e = refl
      left_one false c e = e

      taken : (b c : Bool) → b ≡ true → (b && not c) ≡ false → c ≡ true
      taken true true e f = refl
      taken true false e f = sym f
      taken false c e f = absurd (true≢false (sym e))

      fresh_now : (was now : Objects) → objects_of contents old.store ≡ Some was → objects_of contents new.store ≡ Some now → (key : Key)
          → (set.contains before.running.fresh key ≡ true) ⊎ (((is_stored now key && not (is_stored was key)) || is_in (told_after now a r) key) ≡ true) → set.contains after.running.fresh key ≡ true
      fresh_now was now told_was told_now key (inl old_fresh) =
          fresh.each before.running after.running was now is_before is_after told_was told_now key ∙ or_left (set.contains before.running.fresh key) ((is_stored now key && not (is_stored was key)) || is_in (told_after now a r) key) old_fresh
      fresh_now was now told_was told_now key (inr more) =
          fresh.each before.running after.running was now is_before is_after told_was told_now key ∙ or_right (set.contains before.running.fresh key) ((is_stored now key && not (is_stored was key)) || is_in (told_after now a r) key) more

      -- why a key is fresh: it was, it is none that was stored, or it is shielded now
      fresh_case : (was now : Objects) → objects_of contents old.store ≡ Some was → objects_of contents new.store ≡ Some now → (key : Key) → set.contains after.running.fresh key ≡ true
          → (set.contains before.running.fresh key ≡ true) ⊎ ((is_stored was key ≡ false) ⊎ (is_in keys key ≡ true))
      fresh_case was now told_was told_now key is_fresh =
          first (or_cases (set.contains before.running.fresh key) ((is_stored now key && not (is_stored was key)) || is_in (told_after now a r) key)
          (sym (fresh.each before.running after.running was now is_before is_after told_was told_now key) ∙ is_fresh))
        where
          absent : (b c : Bool) → (b && not c) ≡ true → c ≡ false
          absent true true e = sym e
          absent true false e = refl
          absent false c e = absurd (true≢false (sym e))

          told_case : (set.contains before.running.fresh key ≡ true) ⊎ (is_in keys key ≡ true) → (set.contains before.running.fresh key ≡ true) ⊎ ((is_stored was key ≡ false) ⊎ (is_in keys key ≡ true))
          told_case (inl old_fresh) = inl old_fresh
          told_case (inr among) = inr (inr among)

          second : ((is_stored now key && not (is_stored was key)) ≡ true) ⊎ (is_in (told_after now a r) key ≡ true) → (set.contains before.running.fresh key ≡ true) ⊎ ((is_stored was key ≡ false) ⊎ (is_in keys key ≡ true))
          second (inl came) = inr (inl (absent (is_stored now key) (is_stored was key) came))
          second (inr among) = told_case (told now told_now key among)

          first : (set.contains before.running.fresh key ≡ true) ⊎ (((is_stored now key && not (is_stored was key)) || is_in (told_after now a r) key) ≡ true)
              → (set.contains before.running.fresh key ≡ true) ⊎ ((is_stored was key ≡ false) ⊎ (is_in keys key ≡ true))
          first (inl old_fresh) = inl old_fresh
          first (inr more) = second (or_cases (is_stored now key && not (is_stored was key)) (is_in (told_after now a r) key) more)

      gone : {was : Objects} (key : Key) (there among : Bool) → is_candidate before.marks key ≡ there → is_in keys key ≡ among
          → (set.contains before.running.fresh key ≡ true) ⊎ ((is_stored was key ≡ false) ⊎ (is_in keys key ≡ true))
          → Collects (running_library old.state old.running (faults old.store.shelf) was) before.running before.marks → (is_candidate before.marks key && not (is_in keys key)) ≡ false
      gone key false among is_there is_among why c = ap (λ b. b && not (is_in keys key)) is_there
      gone key true true is_there is_among why c = ap (λ b. is_candidate before.marks key && not b) is_among ∙ none (is_candidate before.marks key)
        where
          none : (b : Bool) → (b && false) ≡ false
          none true = refl
          none false = refl
      gone key true false is_there is_among (inl old_fresh) c = absurd (true≢false (sym old_fresh ∙ c.not_fresh key is_there))
      gone key true false is_there is_among (inr (inl absent)) c = absurd (true≢false (sym (c.stored key is_there) ∙ absent))
      gone key true false is_there is_among (inr (inr among)) c = absurd (true≢false (sym among ∙ is_among))

-- ---- a call that reads alone

pub kept_read : {S : Type 0} (contents : S → Option Contents) (faults : S → ℕ) (old : DepotView S) (store : StoreView S) → StoreKeeps contents old.store store → (known later : KnownView)
    (collection : Option CollectionView) → IsKept contents faults old known collection → FitsIn contents old.store later → IsKept contents faults (record old { store = store }) later collection
kept_read {S} contents faults old store keeps known later collection kept fits =
    let new : DepotView S = record old { store = store } in
    kept_same contents faults old new keeps.index keeps.objects known later collection kept
    (good_same contents faults old new keeps.index keeps.objects kept.good refl
    (good_kept contents faults old (good_rest contents faults old kept.good) store (kept_status contents old.store store keeps) keeps.objects))
    (fits_same contents old.store store later keeps.objects fits) refl refl

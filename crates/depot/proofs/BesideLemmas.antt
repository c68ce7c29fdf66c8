-- What a call does where no collection runs, it does beside one. The key lemmas are serves_beside and good_beside.
use Rattle.std.proofs.Common.{◌≡◌, ◌||◌, ◌&&◌, not, ℕ, Bool, true, false, List, refl, sym, ap, ◌∙◌, subst, Option, None, Some, is_some, option_map}
use Rattle.std.specs.FinMap as map
use Rattle.std.specs.FinSet as set
use Rattle.ids.specs.Key.{Objects}
use Rattle.ids.specs.declared.key.Key.{Key}
use Rattle.library_rules.specs.History.{StepSo, lone}
use Rattle.library_rules.specs.LibraryState.{IsSound, Running, State, is_fresh, is_stored}
use Rattle.library_rules.specs.declared.entry.Entry.{Entry}
use Rattle.library_rules.specs.declared.entry.Step.TheVariants as step
use Rattle.library_rules.proofs.AddedLemmas.{came_with}
use Rattle.library_rules.proofs.BesideLemmas.{beside}
use Rattle.library_rules.proofs.BesideStepLemmas.{fresher_as, keys_in, permits_asked, running_beside, step_beside, told_after}
use Rattle.library_state.specs.declared.call.Act.{Act}
use Rattle.library_state.specs.declared.call.Call.{Call}
use Rattle.library_state.specs.declared.reply.Reply.{Reply}
use Rattle.library_state.specs.declared.state.LibState.{LibState}
use Rattle.object_graph.specs.Traversal.{is_in}
use Rattle.object_store.specs.Shelf.{Contents}
use Rattle.object_store.specs.StoreView.{objects_of, status_of}
use Rattle.object_store.specs.declared.shelf.Slot.{Slot as ShelfSlot}
use Rattle.depot.specs.Answering.{AnswersBySome, MayAnswerSo, Serves, SlotSo, Would, refused, rewritten, unwritten}
use Rattle.depot.specs.DepotView.{DepotView, IsGood, at_rest, library, running_library, state_of}
use Rattle.depot.specs.FreshKeys.{GoesOn, RunsOn, told_there}
use Rattle.depot.specs.Writing.{Slot}
use Rattle.depot.proofs.ToldLemmas.{MappedAt, mapped_at}

-- where the shelf tells its contents, and a collection runs: fresh are the keys that were, those of objects that came, and those
-- that were told to be stored
pub record FreshTold {S : Type 0} (contents : S → Option Contents) (old new : DepotView S) (a : Act) (r : Reply) : Type 0 where
  pub each : (before after : Running) (was now : Objects) → old.running ≡ Some before → new.running ≡ Some after → objects_of contents old.store ≡ Some was → objects_of contents new.store ≡ Some now
      → (key : Key) → set.contains after.fresh key ≡ (set.contains before.fresh key || ((is_stored now key && not (is_stored was key)) || is_in (told_after now a r) key))

-- ---- the slot

module _ {S : Type 0} (contents : S → Option Contents) (faults : S → ℕ) (old : DepotView S) (call : Call) (moment : ℕ) where
  would_beside : (said : Reply) → Would contents faults (at_rest old) call moment said → Would contents faults old call moment said
  would_beside said would s is =
      let at = mapped_at (running_library old.state old.running (faults old.store.shelf)) (objects_of contents old.store) s is in
      let rest : State = library old.state (faults old.store.shelf) at.value in
      let may = would rest (ap (option_map (library old.state (faults old.store.shelf))) at.is) in
      subst (λ (t : State). MayAnswerSo t call moment said) at.gives
      (may.0, permits_asked rest old.running (record (lone rest (step.Asked call) moment said) { added = may.0 }) call refl may.1)

  slot_beside : (r : Reply) (unsettled : Bool) (present : LibState) (was : Slot) (still : Bool) (after : LibState) (now : Slot) (before count : ℕ)
      → SlotSo (Would contents faults (at_rest old) call moment) call moment r unsettled present was still after now before count
      → SlotSo (Would contents faults old call moment) call moment r unsettled present was still after now before count
  slot_beside r unsettled present was still after now before count (unwritten same flag slot texts) = unwritten same flag slot texts
  slot_beside r unsettled present was still after now before count (rewritten goes differs flag slot) = rewritten goes differs flag slot
  slot_beside r unsettled present was still after now before count (refused fault is said goes would differs slot) = refused fault is said goes (would_beside said would) differs slot

-- ---- the answer

module _ {S : Type 0} (contents : S → Option Contents) (faults : S → ℕ) (old new : DepotView S) (call : Call) (moment : ℕ) (r : Reply)
    (runs : RunsOn old.store.index new.store.index (told_there old.store.index call.act r) old.running new.running) (fresh : FreshTold contents old new call.act r) where
  answers_beside : (was : Objects) → objects_of contents old.store ≡ Some was → AnswersBySome (library old.state (faults old.store.shelf) was) call moment r (state_of contents faults (at_rest new))
      → (o : Option Running) → old.running ≡ o → AnswersBySome (running_library old.state o (faults old.store.shelf) was) call moment r (state_of contents faults new)
  answers_beside was told answered None idle = (
    answered.0,
    record {
      state = answered.1.state;
      left = ap (λ (p : Option Running). state_of contents faults (record new { running = p })) (subst (λ p. RunsOn old.store.index new.store.index (told_there old.store.index call.act r) p new.running) idle runs) ∙ answered.1.left;
      step = answered.1.step;
    },
  )
  answers_beside was told answered (Some before) is = (
    goes_step.0,
    record { state = beside t (Some after); left = now_beside; step = goes_step.1 },
  )
    where
      s : State
      s = library old.state (faults old.store.shelf) was

      t : State
      t = answered.1.state

      goes : (running : Running) × (new.running ≡ Some running) × GoesOn old.store.index new.store.index (told_there old.store.index call.act r) before running
      goes = subst (λ p. RunsOn old.store.index new.store.index (told_there old.store.index call.act r) p new.running) is runs

      after : Running
      after = goes.0

      now_at : MappedAt (library new.state (faults new.store.shelf)) (objects_of contents new.store) t
      now_at = mapped_at (library new.state (faults new.store.shelf)) (objects_of contents new.store) t answered.1.left

      now_beside : state_of contents faults new ≡ Some (beside t (Some after))
      now_beside =
          ap (λ (p : Option Running). state_of contents faults (record new { running = p })) goes.1
          ∙ ap (option_map (running_library new.state (Some after) (faults new.store.shelf))) now_at.is
          ∙ ap (λ (u : State). Some (beside u (Some after))) now_at.gives

      same_objects : t.objects ≡ now_at.value
      same_objects = ap (λ (u : State). u.objects) (sym now_at.gives)

      is_after : after ≡ running_beside t.objects call.act r (keys_in answered.0) before
      is_after = fresher_as before after (told_after t.objects call.act r) (keys_in answered.0) goes.2.stored goes.2.turned
          (λ key. fresh.each before after was now_at.value is goes.1 told now_at.is key
          ∙ ap (λ (o : Objects). set.contains before.fresh key || ((is_stored o key && not (is_stored was key)) || is_in (told_after o call.act r) key)) (sym same_objects)
          ∙ ap (λ b. set.contains before.fresh key || (b || is_in (told_after t.objects call.act r) key)) (sym (came_with s call moment r t answered.0 answered.1.step key)))

      goes_step : (changes : List Entry) × StepSo (beside s (Some before)) (step.Asked call) moment r (beside t (Some after)) changes
      goes_step = step_beside s call moment r t answered.0 before after refl answered.1.step is_after

  module _ (may_give : S → ShelfSlot → Option (List ℕ) → Type 0) (texts : S → ℕ) where
    -- what is served where no collection runs is served beside one
    pub serves_beside : new.marked ≡ old.marked → Serves contents may_give texts faults (at_rest old) call moment r (at_rest new) → Serves contents may_give texts faults old call moment r new
    serves_beside marks rest = record {
      told = λ s is.
          let at = mapped_at (running_library old.state old.running (faults old.store.shelf)) (objects_of contents old.store) s is in
          subst (λ (u : State). AnswersBySome u call moment r (state_of contents faults new)) at.gives
          (answers_beside at.value at.is (rest.told (library old.state (faults old.store.shelf) at.value) (ap (option_map (library old.state (faults old.store.shelf))) at.is)) old.running refl);
      may_come = rest.may_come;
      damage = rest.damage;
      count = rest.count;
      left = rest.left;
      fresh = runs;
      marked = marks;
      lying = rest.lying;
      slot = slot_beside contents faults old call moment r old.unsettled old.state (status_of contents old.store) new.unsettled new.state (status_of contents new.store)
          (texts old.store.shelf) (texts new.store.shelf) rest.slot;
    }

-- ---- the invariant

-- a sound library with fresh keys that are stored is sound
pub sound_fresh : (s : State) (running : Option Running) → IsSound s → ((key : Key) → is_fresh running key ≡ true → is_stored s.objects key ≡ true) → IsSound (beside s running)
sound_fresh s running sound stored = record {
  kept = record { some_kept = sound.kept.some_kept; complete = sound.kept.complete; fresh_stored = stored };
  tokens = record { secrets = sound.tokens.secrets; few = sound.tokens.few; lasts = sound.tokens.lasts; users = sound.tokens.users };
  numbers = record { collections = sound.numbers.collections; opened = sound.numbers.opened; openings = sound.numbers.openings; day_count = sound.numbers.day_count; name_size = sound.numbers.name_size };
}

-- the depot where no collection runs is good too
pub good_rest : {S : Type 0} (contents : S → Option Contents) (faults : S → ℕ) (depot : DepotView S) → IsGood contents faults depot → IsGood contents faults (at_rest depot)
good_rest contents faults depot good = record {
  head = good.head;
  reads = good.reads;
  fresh = λ key e. none key e;
  sound = λ s is.
      let at = mapped_at (library depot.state (faults depot.store.shelf)) (objects_of contents depot.store) s is in
      subst IsSound at.gives
      (sound_fresh (running_library depot.state depot.running (faults depot.store.shelf) at.value) None
      (good.sound (running_library depot.state depot.running (faults depot.store.shelf) at.value) (ap (option_map (running_library depot.state depot.running (faults depot.store.shelf))) at.is))
      (λ key e. none key e));
  text = good.text;
}
  where
    none : {P : Type 0} (key : Key) → false ≡ true → P
    none key e = cc

-- a depot that is good where no collection runs is good beside one whose fresh keys are known, and stored where that is told
pub good_beside : {S : Type 0} (contents : S → Option Contents) (faults : S → ℕ) (depot : DepotView S) → IsGood contents faults (at_rest depot)
    → ((key : Key) → is_fresh depot.running key ≡ true → is_some (map.get depot.store.index key) ≡ true)
    → ((objects : Objects) → objects_of contents depot.store ≡ Some objects → (key : Key) → is_fresh depot.running key ≡ true → is_stored objects key ≡ true) → IsGood contents faults depot
good_beside contents faults depot good known stored = record {
  head = good.head;
  reads = good.reads;
  fresh = known;
  sound = λ s is.
      let at = mapped_at (running_library depot.state depot.running (faults depot.store.shelf)) (objects_of contents depot.store) s is in
      subst IsSound at.gives
      (sound_fresh (library depot.state (faults depot.store.shelf) at.value) depot.running
      (good.sound (library depot.state (faults depot.store.shelf) at.value) (ap (option_map (library depot.state (faults depot.store.shelf))) at.is)) (stored at.value at.is));
  text = good.text;
}

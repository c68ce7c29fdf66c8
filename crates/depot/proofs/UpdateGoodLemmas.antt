-- What an update leaves of a library that is kept, and that it stays good. The key lemmas are serves_refused, serves_kept,
-- serves_done and serves_failed, and good_done and good_failed.
use Rattle.std.proofs.Common.{◌≡◌, ◌≢◌, inl, ℕ, ◌+◌, ◌≤◌, arith, length, length-append, Bool, true, false, if◌then◌else◌, List, [], ◌∷◌, append-nil, refl, sym, ap, ◌∙◌, subst, Option, None, Some, option_map, IsTrue, Err}
use Rattle.std.specs.Bool.{MatchBool}
use Rattle.std.specs.Prelude.{⊤}
use Rattle.ids.specs.FaultCount.{Rose}
use Rattle.ids.specs.Key.{Objects}
use Rattle.library_rules.specs.Calls.{Says, due}
use Rattle.library_rules.specs.Changes.{put_new, with_added}
use Rattle.library_rules.specs.LibraryState.{State, IsSound, head_of, is_kept}
use Rattle.library_rules.specs.declared.entry.Step.TheVariants as step
use Rattle.library_rules.specs.declared.entry.Stored.{Stored}
use Rattle.library_rules.proofs.JoinedLemmas.{sound_stands, step_stands}
use Rattle.library_rules.proofs.SoundLemmas.{sound_counted}
use Rattle.library_state.specs.StateSpelling.{text_of}
use Rattle.library_state.specs.declared.call.Act.TheVariants as act
use Rattle.library_state.specs.declared.call.Call.{Call}
use Rattle.library_state.specs.declared.refusal.Refusal.{Refusal}
use Rattle.library_state.specs.declared.reply.Reply.{Reply}
use Rattle.library_state.specs.declared.reply.Reply.TheVariants as reply
use Rattle.library_state.specs.declared.state.LibState.{LibState}
use Rattle.object_store.specs.Shelf.{Contents}
use Rattle.object_store.specs.Store.{CountsShelf, is_free, is_of_shelf}
use Rattle.object_store.specs.StoreView.{AddsNoStray, Keeps, StoreView, objects_of, status_of}
use Rattle.object_store.proofs.StrayLemmas.{strays_kept}
use Rattle.object_store.specs.declared.error.StoreFault.{StoreFault}
use Rattle.object_store.specs.declared.shelf.Slot.{Slot as ShelfSlot}
use Rattle.depot.specs.Answering.{AnswersBySome, MayAnswer, MayAnswerSo, Serves, SlotSo, Would, decided, next_by, next_state, refused, rewritten, unwritten, with_install}
use Rattle.depot.specs.DepotView.{at_rest, DepotView, depot_of, library, state_of, Holds, IsGood}
use Rattle.depot.specs.ObjectCalls.{Counts, IsToldDamageOf}
use Rattle.depot.specs.UpdateInstall.{IsCarriedOut, IsWriteFault, LeftBehind, StoresPart, held_in, stopped, unsure, with_all}
use Rattle.depot.specs.Plan.{objects_in}
use Rattle.depot.specs.UpdatePlan.{IsPlan, IsPlanFault}
use Rattle.depot.specs.NextState.{Follows, answered}
use Rattle.depot.specs.Writing.{IsWritten, LeftBy, ReadsBack, settled}
use Rattle.depot.specs.declared.plan.Plan.{Plan}
use Rattle.depot.proofs.GoodLemmas.{none_fresh, sound_at, sound_told}
use Rattle.depot.proofs.GrownLemmas.{holds_grown, kept_status}
use Rattle.depot.proofs.ToldLemmas.{mapped_at}
use Rattle.depot.proofs.RefusalsLemmas.{counted_same, free_told, told_damage}
use Rattle.depot.proofs.UpdateLemmas.{done_answers, done_may, kept_answers, refused_answers, stopped_answers}
use Rattle.depot.specs.Refusals.{store_refusal}
use Rattle.depot.proofs.WritingLemmas.{holds_after, written_at}
use Rattle.ids.proofs.BasicLemmas.{pushed_is_some}

-- ---- what is held

pub held_kept : {S : Type 0} (contents : S → Option Contents) (texts : S → ℕ) (old new : StoreView S) → Keeps contents old new → texts new.shelf ≡ texts old.shelf
    → held_in contents texts new ≡ held_in contents texts old
held_kept contents texts old new keeps written =
    ap (λ o. record { objects = o; slot = status_of contents new; texts = texts new.shelf }) keeps.objects
    ∙ ap (λ s. record { objects = objects_of contents old; slot = s; texts = texts new.shelf }) (kept_status contents old new keeps)
    ∙ ap (λ n. record { objects = objects_of contents old; slot = status_of contents old; texts = n }) written

-- ---- soundness

-- what an answer leaves of a sound state is sound
pub sound_answered : (s t : State) (call : Call) (moment : ℕ) (r : Reply) → IsSound s → AnswersBySome s call moment r (Some t) → IsSound t
sound_answered s t call moment r sound (changes, answers) =
    let same : answers.state ≡ t = some_same (sym answers.left) in
    subst IsSound same (sound_stands s answers.state changes sound (step_stands s (step.Asked call) moment r answers.state changes answers.step))
  where
    some_same : {x y : State} → Some x ≡ Some y → x ≡ y
    some_same e = cc

holds_added : (unsettled : Bool) (state : LibState) (objects : Objects) (added : List Stored) (status : Option (List ℕ)) → Holds unsettled state objects status → Holds unsettled state (with_added objects added) status
holds_added unsettled state objects [] status holds = holds
holds_added unsettled state objects (x ∷ added) status holds = holds_added unsettled state (put_new objects x) added status (holds_grown unsettled state objects x status holds)

free_not_damage : (objects : Objects) (fault : StoreFault) → IsTrue (is_free fault) → IsToldDamageOf objects (store_refusal fault)
free_not_damage objects fault free = told_damage objects (store_refusal fault) (free_told objects fault free)

pub fault_counts : (before now : ℕ) (fault : StoreFault) → CountsShelf {T = ⊤} before now (Err fault) → Counts before now (reply.Refused (store_refusal fault))
fault_counts before now fault counts = subst (λ b. MatchBool b ((before ≤ now) × Rose before now) (now ≡ before)) (counted_same fault) counts

-- the state with the head update
next_is : (state : LibState) (call : Call) (moment : ℕ) (pushed head : List ℕ) → call.act ≡ act.Update pushed → is_kept state.kept pushed ≡ false
    → next_state state call moment (reply.Updated head) ≡ with_install head pushed moment state
next_is state call moment pushed head updates new =
    ap (λ a. next_by state call.secret moment a (reply.Updated head)) updates ∙ ap (λ b. if b then state else with_install head pushed moment state) new

-- nothing changes for a kept commit
next_same : (state : LibState) (call : Call) (moment : ℕ) (pushed head : List ℕ) → call.act ≡ act.Update pushed → is_kept state.kept pushed ≡ true
    → next_state state call moment (reply.Updated head) ≡ state
next_same state call moment pushed head updates kept =
    ap (λ a. next_by state call.secret moment a (reply.Updated head)) updates ∙ ap (λ b. if b then state else with_install head pushed moment state) kept

-- a head update more is another state
pub install_apart : (state : LibState) (head pushed : List ℕ) (moment : ℕ) → with_install head pushed moment state ≢ state
install_apart state head pushed moment same =
    longer (length state.kept) (sym (length-append state.kept (record { head = head; pushed = pushed; at = moment } ∷ [])) ∙ ap (λ (st : LibState). length st.kept) same)
  where
    longer : (n : ℕ) → n + 1 ≢ n
    longer n e = omega arith

-- the state with the head update follows
install_follows : (state : LibState) (pushed head : List ℕ) (moment : ℕ) → is_kept state.kept pushed ≡ false → Follows state (with_install head pushed moment state)
install_follows state pushed head moment new =
    answered (record { secret = None; act = act.Update pushed }) moment (reply.Updated head) refl
    (next_is state (record { secret = None; act = act.Update pushed }) moment pushed head refl new)

module _ {S : Type 0} (contents : S → Option Contents) (may_give : S → ShelfSlot → Option (List ℕ) → Type 0) (texts faults : S → ℕ) (old : DepotView S)
    (call : Call) (moment : ℕ) (pushed : List ℕ) (updates : call.act ≡ act.Update pushed) where
  -- the library before, over what is told
  abbrev at : Objects → State
  at objects = library old.state (faults old.store.shelf) objects

  -- an answer for what is told
  told_by : (r : Reply) (new : DepotView S)
      → ((objects : Objects) → objects_of contents old.store ≡ Some objects → AnswersBySome (at objects) call moment r (state_of contents faults new))
      → (s : State) → state_of contents faults (at_rest old) ≡ Some s → AnswersBySome s call moment r (state_of contents faults new)
  told_by r new each s is =
      let found = mapped_at (library old.state (faults old.store.shelf)) (objects_of contents old.store) s is in
      subst (λ t. AnswersBySome t call moment r (state_of contents faults new)) found.gives (each found.value found.is)

  left_as : (r : Reply) (new : DepotView S) (added : List Stored) (state : LibState) (count : ℕ) (objects : Objects) → new.state ≡ state → faults new.store.shelf ≡ count
      → objects_of contents new.store ≡ with_all added (objects_of contents old.store) → objects_of contents old.store ≡ Some objects
      → AnswersBySome (at objects) call moment r (Some (library state count (with_added objects added))) → AnswersBySome (at objects) call moment r (state_of contents faults (at_rest new))
  left_as r new added state count objects same counts stored told answers =
      subst (AnswersBySome (at objects) call moment r)
      (sym (ap (option_map (library new.state (faults new.store.shelf))) (stored ∙ ap (with_all added) told)
      ∙ ap (λ st. Some (library st (faults new.store.shelf) (with_added objects added))) same
      ∙ ap (λ n. Some (library state n (with_added objects added))) counts)) answers

  -- ---- nothing is stored

  module _ (store : StoreView S) (keeps : Keeps contents old.store store) (written : texts store.shelf ≡ texts old.store.shelf) where
    abbrev unmoved : DepotView S
    unmoved = depot_of store old.state old.unsettled None

    nothing_stored : objects_of contents store ≡ with_all [] (objects_of contents old.store)
    nothing_stored = keeps.objects ∙ by (objects_of contents old.store)
      where
        by : (known : Option Objects) → known ≡ with_all [] known
        by None = refl
        by (Some o) = refl

    pub serves_refused : (why : Refusal) → ((objects : Objects) → objects_of contents old.store ≡ Some objects → IsPlanFault (at objects) moment (due (at objects) call) why)
        → Counts (faults old.store.shelf) (faults store.shelf) (reply.Refused why) → MayAnswer store.index (may_give store.shelf) (act.Update pushed) (decided old.state call) (reply.Refused why)
        → ((objects : Objects) → objects_of contents old.store ≡ Some objects → IsToldDamageOf objects why)
        → Serves contents may_give texts faults (at_rest old) call moment (reply.Refused why) unmoved
    serves_refused why plans count may damage = record {
      told = told_by (reply.Refused why) unmoved (λ objects told. left_as (reply.Refused why) unmoved [] old.state (faults store.shelf) objects refl refl nothing_stored told
          (refused_answers old.state (faults old.store.shelf) objects call moment pushed updates why (faults store.shelf) (plans objects told) count));
      may_come = subst (λ index. MayAnswer index (may_give store.shelf) call.act (decided old.state call) (reply.Refused why)) keeps.index
          (subst (λ a. MayAnswer store.index (may_give store.shelf) a (decided old.state call) (reply.Refused why)) (sym updates) may);
      damage = damage;
      count = count;
      left = refl;
      fresh = refl;
      marked = refl;
      lying = λ _. strays_kept contents old.store store keeps.index keeps.shelf;
      slot = unwritten refl refl (kept_status contents old.store store keeps) written;
    }

    pub serves_kept : is_kept old.state.kept pushed ≡ true → ((objects : Objects) → objects_of contents old.store ≡ Some objects → due (at objects) call ≡ Says (reply.Updated (head_of old.state.kept)))
        → faults store.shelf ≡ faults old.store.shelf → decided old.state call ≡ Some (reply.Updated (head_of old.state.kept))
        → Serves contents may_give texts faults (at_rest old) call moment (reply.Updated (head_of old.state.kept)) unmoved
    serves_kept kept says count is = record {
      told = told_by (reply.Updated (head_of old.state.kept)) unmoved (λ objects told.
          left_as (reply.Updated (head_of old.state.kept)) unmoved [] old.state (faults old.store.shelf) objects refl count nothing_stored told
          (kept_answers old.state (faults old.store.shelf) objects call moment pushed updates kept (says objects told)));
      may_come = subst (λ o. MayAnswer old.store.index (may_give store.shelf) call.act o (reply.Updated (head_of old.state.kept))) (sym is) (inl refl);
      damage = λ objects told. tt;
      count = count;
      left = sym (next_same old.state call moment pushed (head_of old.state.kept) updates kept);
      fresh = refl;
      marked = refl;
      lying = λ _. strays_kept contents old.store store keeps.index keeps.shelf;
      slot = unwritten refl refl (kept_status contents old.store store keeps) written;
    }

  -- ---- a plan is carried out

  module _ (plan : Plan) (new_commit : is_kept old.state.kept pushed ≡ false)
      (planned : (objects : Objects) → objects_of contents old.store ≡ Some objects → IsPlan (at objects) moment (due (at objects) call) plan)
      (undecided : decided old.state call ≡ None) where
    abbrev next : LibState
    next = with_install plan.head pushed moment old.state

    done_told : (objects : Objects) → objects_of contents old.store ≡ Some objects
        → AnswersBySome (at objects) call moment (reply.Updated plan.head) (Some (library next (faults old.store.shelf) (with_added objects (objects_in plan))))
    done_told objects told = done_answers old.state (faults old.store.shelf) objects call moment pushed updates plan new_commit (planned objects told)

    module _ (store : StoreView S) (state : LibState) (still : Bool) where
      abbrev new : DepotView S
      new = depot_of store state still None

      module _ (done : IsCarriedOut old.unsettled old.state next (objects_in plan) (held_in contents texts old.store) still (held_in contents texts store)) (same : state ≡ next) where
        pub serves_done : faults store.shelf ≡ faults old.store.shelf → AddsNoStray contents old.store store → Serves contents may_give texts faults (at_rest old) call moment (reply.Updated plan.head) new
        serves_done count lying = record {
          told = told_by (reply.Updated plan.head) new (λ objects told.
              left_as (reply.Updated plan.head) new (objects_in plan) next (faults old.store.shelf) objects same count done.objects told (done_told objects told));
          may_come = subst (λ o. MayAnswer old.store.index (may_give store.shelf) call.act o (reply.Updated plan.head)) (sym undecided)
              (subst (λ a. MayAnswer old.store.index (may_give store.shelf) a None (reply.Updated plan.head)) (sym updates) tt);
          damage = λ objects told. tt;
          count = count;
          left = same ∙ sym (next_is old.state call moment pushed plan.head updates new_commit);
          fresh = refl;
          marked = refl;
          lying = λ _. lying;
          slot = rewritten refl (λ stays. install_apart old.state plan.head pushed moment (sym same ∙ stays)) done.settles
              (subst (λ st. IsWritten st (settled old.unsettled old.state (status_of contents old.store)) (status_of contents store)) (sym same) done.text);
        }

        pub good_done : IsGood contents faults (at_rest old) → IsGood contents faults new
        good_done good = record {
          head = subst (λ (st : LibState). st.kept ≢ []) (sym same) (pushed_is_some old.state.kept (record { head = plan.head; pushed = pushed; at = moment }));
          reads = subst ReadsBack (sym same) done.text.reads;
          fresh = none_fresh contents faults store;
          sound = sound_told contents faults new (λ objects told.
              let before = mapped_at (λ (o : Objects). with_added o (objects_in plan)) (objects_of contents old.store) objects (sym done.objects ∙ told) in
              subst (λ o. IsSound (library state (faults store.shelf) o)) before.gives
              (subst (λ st. IsSound (library st (faults store.shelf) (with_added before.value (objects_in plan)))) (sym same)
              (sound_counted (library next (faults old.store.shelf) (with_added before.value (objects_in plan))) (faults store.shelf)
              (sound_answered (at before.value) (library next (faults old.store.shelf) (with_added before.value (objects_in plan))) call moment (reply.Updated plan.head)
              (sound_at contents faults old good before.value (faults old.store.shelf) before.is) (done_told before.value before.is)))));
          text = λ objects status told holds. subst (λ b. Holds b state objects status) (sym done.settles)
              (subst (λ st. status ≡ Some (text_of st)) (sym same) (written_at next (settled old.unsettled old.state (status_of contents old.store)) (status_of contents store) status done.text.text holds));
        }

      -- ---- a plan is given up

      module _ (fault : StoreFault) (behind : LeftBehind fault old.unsettled old.state next (objects_in plan) (held_in contents texts old.store) still (held_in contents texts store)) (same : state ≡ old.state) where
        -- the objects that were put
        part_of : LeftBehind fault old.unsettled old.state next (objects_in plan) (held_in contents texts old.store) still (held_in contents texts store)
            → StoresPart (objects_of contents old.store) (objects_in plan) (objects_of contents store)
        part_of (stopped part unsettled kept written) = part
        part_of (unsure free stored left) = record { part = objects_in plan; front = ([], sym (append-nil (objects_in plan))); objects = stored }

        part : StoresPart (objects_of contents old.store) (objects_in plan) (objects_of contents store)
        part = part_of behind

        module _ (free : (objects : Objects) → objects_of contents old.store ≡ Some objects → IsTrue (is_free fault)) (count : CountsShelf {T = ⊤} (faults old.store.shelf) (faults store.shelf) (Err fault)) where
          failed_told : (objects : Objects) → objects_of contents old.store ≡ Some objects
              → AnswersBySome (at objects) call moment (reply.Refused (store_refusal fault)) (Some (library old.state (faults store.shelf) (with_added objects part.part)))
          failed_told objects told =
              stopped_answers old.state (faults old.store.shelf) objects call moment pushed updates plan part.part (store_refusal fault) (faults store.shelf) (planned objects told) part.front
              (free_told objects fault (free objects told)) (fault_counts (faults old.store.shelf) (faults store.shelf) fault count)

          pub serves_failed : IsWriteFault (may_give store.shelf) fault → (is_of_shelf fault ≡ false → AddsNoStray contents old.store store) → Serves contents may_give texts faults (at_rest old) call moment (reply.Refused (store_refusal fault)) new
          serves_failed cause lying = record {
            told = told_by (reply.Refused (store_refusal fault)) new (λ objects told.
                left_as (reply.Refused (store_refusal fault)) new part.part old.state (faults store.shelf) objects same refl part.objects told (failed_told objects told));
            may_come = subst (λ o. MayAnswer old.store.index (may_give store.shelf) call.act o (reply.Refused (store_refusal fault))) (sym undecided)
                (subst (λ a. MayAnswer old.store.index (may_give store.shelf) a None (reply.Refused (store_refusal fault))) (sym updates) (cause old.store.index));
            damage = λ objects told. free_not_damage objects fault (free objects told);
            count = fault_counts (faults old.store.shelf) (faults store.shelf) fault count;
            left = same;
            fresh = refl;
            marked = refl;
            lying = λ free. lying (counted_same fault ∙ free);
            slot = by behind;
          }
            where
              by : LeftBehind fault old.unsettled old.state next (objects_in plan) (held_in contents texts old.store) still (held_in contents texts store)
                  → SlotSo (Would contents faults (at_rest old) call moment) call moment (reply.Refused (store_refusal fault)) old.unsettled old.state (status_of contents old.store) still state (status_of contents store)
                  (texts old.store.shelf) (texts store.shelf)
              by (stopped stays unsettled kept written) = unwritten same unsettled kept written
              by (unsure is stored left) =
                  refused fault refl (reply.Updated plan.head) refl
                  (λ s known.
                  let found = mapped_at (library old.state (faults old.store.shelf)) (objects_of contents old.store) s known in
                  subst (λ t. MayAnswerSo t call moment (reply.Updated plan.head)) found.gives
                  (done_may old.state (faults old.store.shelf) found.value call moment pushed updates plan (planned found.value found.is)))
                  (λ stays. install_apart old.state plan.head pushed moment (sym (next_is old.state call moment pushed plan.head updates new_commit) ∙ stays))
                  (subst (λ st. LeftBy fault old.unsettled old.state st (status_of contents old.store) still (status_of contents store))
                  (sym (next_is old.state call moment pushed plan.head updates new_commit)) left)

          sound_next : IsGood contents faults (at_rest old) → (objects : Objects) → objects_of contents old.store ≡ Some objects → (n : ℕ) → IsSound (library next n (with_added objects (objects_in plan)))
          sound_next good objects told n =
              sound_counted (library next (faults old.store.shelf) (with_added objects (objects_in plan))) n
              (sound_answered (at objects) (library next (faults old.store.shelf) (with_added objects (objects_in plan))) call moment (reply.Updated plan.head)
              (sound_at contents faults old good objects (faults old.store.shelf) told) (done_told objects told))

          text_left : IsGood contents faults (at_rest old) → LeftBehind fault old.unsettled old.state next (objects_in plan) (held_in contents texts old.store) still (held_in contents texts store)
              → (objects : Objects) (status : Option (List ℕ)) → objects_of contents store ≡ Some objects → status_of contents store ≡ Some status → Holds still old.state objects status
          text_left good (stopped stays unsettled kept written) objects status told holds =
              let before = mapped_at (λ (o : Objects). with_added o stays.part) (objects_of contents old.store) objects (sym stays.objects ∙ told) in
              subst (λ b. Holds b old.state objects status) (sym unsettled)
              (subst (λ o. Holds old.unsettled old.state o status) before.gives
              (holds_added old.unsettled old.state before.value stays.part status (good.text before.value status before.is (sym kept ∙ holds))))
          text_left good (unsure is stored left) objects status told holds =
              let before = mapped_at (λ (o : Objects). with_added o (objects_in plan)) (objects_of contents old.store) objects (sym stored ∙ told) in
              subst (λ o. Holds still old.state o status) before.gives
              (holds_after old.unsettled old.state next (with_added before.value (objects_in plan)) (status_of contents old.store)
              (λ given was. holds_added old.unsettled old.state before.value (objects_in plan) given (good.text before.value given before.is was))
              (install_follows old.state pushed plan.head moment new_commit) (sound_next good before.value before.is) still (status_of contents store) status fault left holds)

          pub good_failed : IsGood contents faults (at_rest old) → IsGood contents faults new
          good_failed good = record {
            head = subst (λ (st : LibState). st.kept ≢ []) (sym same) good.head;
            reads = subst ReadsBack (sym same) good.reads;
            fresh = none_fresh contents faults store;
            sound = sound_told contents faults new (λ objects told.
                let before = mapped_at (λ (o : Objects). with_added o part.part) (objects_of contents old.store) objects (sym part.objects ∙ told) in
                subst (λ o. IsSound (library state (faults store.shelf) o)) before.gives
                (subst (λ st. IsSound (library st (faults store.shelf) (with_added before.value part.part))) (sym same)
                (sound_answered (at before.value) (library old.state (faults store.shelf) (with_added before.value part.part)) call moment (reply.Refused (store_refusal fault))
                (sound_at contents faults old good before.value (faults old.store.shelf) before.is) (failed_told before.value before.is))));
            text = λ objects status told holds. subst (λ st. Holds still st objects status) (sym same) (text_left good behind objects status told holds);
          }

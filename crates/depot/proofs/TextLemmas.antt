-- What a call answers and leaves that writes the state text. The key lemmas are serves_changed and good_changed.
use Rattle.std.proofs.Common.{◌≡◌, ◌≢◌, inl, inr, ℕ, ◌≤◌, Bool, false, if◌then◌else◌, List, [], ◌∷◌, refl, sym, ap, ◌∙◌, subst, true≢false, Option, None, Some, option_map, IsTrue, Result, Ok, Err}
use Rattle.std.specs.Bool.{MatchBool}
use Rattle.std.specs.Prelude.{⊤, OnOk, OnErr}
use Rattle.ids.specs.FaultCount.{Rose}
use Rattle.ids.specs.Key.{Objects}
use Rattle.library_rules.specs.Calls.{Denies, Says, due}
use Rattle.library_rules.specs.Changes.{is_refused, step_changes}
use Rattle.library_rules.specs.History.{lone}
use Rattle.library_rules.specs.LibraryState.{State, IsSound}
use Rattle.library_rules.specs.Permitted.{DuePermits}
use Rattle.library_rules.specs.declared.entry.Step.TheVariants as step
use Rattle.library_rules.proofs.UnmovedLemmas.{lone_apply}
use Rattle.library_state.specs.declared.call.Call.{Call}
use Rattle.library_state.specs.declared.reply.Reply.{Reply}
use Rattle.library_state.specs.declared.reply.Reply.TheVariants as reply
use Rattle.library_state.specs.declared.state.LibState.{LibState}
use Rattle.object_store.specs.Shelf.{Contents}
use Rattle.object_store.specs.Store.{CountsShelf}
use Rattle.object_store.specs.StoreView.{AddsNoStray, StoreView, objects_of, status_of}
use Rattle.object_store.specs.declared.error.StoreFault.{StoreFault}
use Rattle.object_store.specs.declared.error.StoreFault.TheVariants.{Taken, Wrong, Damaged, Shelf, NoMemory}
use Rattle.object_store.specs.declared.shelf.Slot.{Slot as ShelfSlot}
use Rattle.depot.specs.Answering.{AnswersBySome, MayAnswer, MayAnswerSo, Serves, SlotSo, Would, decided, is_free_reply, next_state, refused, rewritten, unwritten}
use Rattle.depot.specs.Changing.{TextSo, same, changed}
use Rattle.depot.specs.DepotView.{at_rest, DepotView, depot_of, library, state_of, IsGood}
use Rattle.depot.specs.ObjectCalls.{Counts, IsFault, IsToldDamage, is_counted}
use Rattle.depot.specs.NextState.{Follows}
use Rattle.depot.specs.Writing.{IsWritten, LeftBy, settled}
use Rattle.depot.proofs.AnsweringLemmas.{fault_answers, says_answers}
use Rattle.depot.proofs.GoodLemmas.{good_rewritten}
use Rattle.depot.proofs.GrownLemmas.{good_kept}
use Rattle.depot.specs.Refusals.{answer_of}
use Rattle.depot.proofs.ServingLemmas.{of_told}

-- ---- answers that are no refusals

told_no_damage : (objects : Objects) (said : Reply) → is_refused said ≡ false → IsToldDamage objects said
told_no_damage objects (reply.Refused why) e = absurd (true≢false e)
told_no_damage objects other e = tt

plain_not_counted : (said : Reply) → is_refused said ≡ false → is_counted said ≡ false
plain_not_counted (reply.Refused why) e = absurd (true≢false e)
plain_not_counted other e = refl

says_not_denied : (said : Reply) → Says said ≡ Denies → ⊥
says_not_denied said e = cc

-- a state of a library tells what its text holds
library_apart : (next present : LibState) (count : ℕ) (objects : Objects) → next ≢ present → library next count objects ≢ library present count objects
library_apart next present count objects apart e = apart (ap (λ (z : State). z.state) e)

-- ---- an answer after which the state is another

entered : (s t : State) (call : Call) (moment : ℕ) (said : Reply) → due s call ≡ Says said → step_changes moment (step.Asked call) said s ≡ t → t ≢ s → AnswersBySome s call moment said (Some t)
entered s t call moment said is changes apart = (
  lone s (step.Asked call) moment said ∷ [],
  record {
    state = t;
    left = refl;
    step = record {
      permitted = record {
        permits = (subst (DuePermits s (lone s (step.Asked call) moment said)) (sym is) (inl (record { reply = refl; faults = refl }), refl), refl);
        changes = λ stays. apart (sym (lone_apply s (step.Asked call) moment said ∙ changes) ∙ stays);
      };
      is_step = refl;
      at = refl;
      answers = refl;
      state = lone_apply s (step.Asked call) moment said ∙ changes;
    };
  },
)

module _ {S : Type 0} (contents : S → Option Contents) (may_give : S → ShelfSlot → Option (List ℕ) → Type 0) (texts faults : S → ℕ) (old : DepotView S) (call : Call) (moment : ℕ)
    (said : Reply) (next : LibState) (plain : is_refused said ≡ false) (is_decided : decided old.state call ≡ Some said) (is_next : next_state old.state call moment said ≡ next)
    (is_due : (objects : Objects) → due (library old.state (faults old.store.shelf) objects) call ≡ Says said)
    (makes : (objects : Objects) → step_changes moment (step.Asked call) said (library old.state (faults old.store.shelf) objects) ≡ library next (faults old.store.shelf) objects)
    (store : StoreView S) (state : LibState) (still : Bool) (kept : objects_of contents store ≡ objects_of contents old.store) (lying : AddsNoStray contents old.store store) where
  -- the library that is left
  left_is : (st : LibState) → state ≡ st → (objects : Objects) → objects_of contents old.store ≡ Some objects
      → state_of contents faults (depot_of store state still None) ≡ Some (library st (faults store.shelf) objects)
  left_is st is objects told = ap (λ (p : LibState). option_map (library p (faults store.shelf)) (objects_of contents store)) is ∙ ap (option_map (library st (faults store.shelf))) (kept ∙ told)

  refused_by : (fault : StoreFault) → (is_free : (objects : Objects) → IsFault objects (answer_of said (Err fault)))
      → Counts (faults old.store.shelf) (faults store.shelf) (answer_of said (Err fault)) → state ≡ old.state
      → (s : State) → state_of contents faults (at_rest old) ≡ Some s → AnswersBySome s call moment (answer_of said (Err fault)) (state_of contents faults (depot_of store state still None))
  refused_by fault is_free count stays = of_told contents may_give texts faults old call moment
      (λ s. AnswersBySome s call moment (answer_of said (Err fault)) (state_of contents faults (depot_of store state still None))) (λ objects told.
      subst (AnswersBySome (library old.state (faults old.store.shelf) objects) call moment (answer_of said (Err fault))) (sym (left_is old.state stays objects told))
      (fault_answers (library old.state (faults old.store.shelf) objects) call moment (λ e. says_not_denied said (sym (is_due objects) ∙ e))
      (answer_of said (Err fault)) (faults store.shelf) (is_free objects) count))

  read_by : next ≡ old.state → faults store.shelf ≡ faults old.store.shelf → state ≡ next
      → (s : State) → state_of contents faults (at_rest old) ≡ Some s → AnswersBySome s call moment said (state_of contents faults (depot_of store state still None))
  read_by is count ok = of_told contents may_give texts faults old call moment
      (λ s. AnswersBySome s call moment said (state_of contents faults (depot_of store state still None))) (λ objects told.
      subst (AnswersBySome (library old.state (faults old.store.shelf) objects) call moment said)
      (sym (left_is old.state (ok ∙ is) objects told ∙ ap (λ n. Some (library old.state n objects)) count))
      (says_answers (library old.state (faults old.store.shelf) objects) call moment said (is_due objects) (makes objects ∙ ap (λ st. library st (faults old.store.shelf) objects) is)))

  entered_by : next ≢ old.state → faults store.shelf ≡ faults old.store.shelf → state ≡ next
      → (s : State) → state_of contents faults (at_rest old) ≡ Some s → AnswersBySome s call moment said (state_of contents faults (depot_of store state still None))
  entered_by apart count ok = of_told contents may_give texts faults old call moment
      (λ s. AnswersBySome s call moment said (state_of contents faults (depot_of store state still None))) (λ objects told.
      subst (AnswersBySome (library old.state (faults old.store.shelf) objects) call moment said)
      (sym (left_is next ok objects told ∙ ap (λ n. Some (library next n objects)) count))
      (entered (library old.state (faults old.store.shelf) objects) (library next (faults old.store.shelf) objects) call moment said (is_due objects) (makes objects)
      (library_apart next old.state (faults old.store.shelf) objects apart)))

  ok_counts : faults store.shelf ≡ faults old.store.shelf → Counts (faults old.store.shelf) (faults store.shelf) said
  ok_counts count = subst (λ b. MatchBool b ((faults old.store.shelf ≤ faults store.shelf) × Rose (faults old.store.shelf) (faults store.shelf)) (faults store.shelf ≡ faults old.store.shelf))
      (sym (plain_not_counted said plain)) count

  ok_left : state ≡ next → state ≡ (if is_refused said then old.state else next_state old.state call moment said)
  ok_left ok = ok ∙ sym is_next ∙ sym (ap (λ b. if b then old.state else next_state old.state call moment said) plain)

  -- the answer could be given
  would : Would contents faults (at_rest old) call moment said
  would = of_told contents may_give texts faults old call moment (λ s. MayAnswerSo s call moment said) (λ objects told. (
    [],
    (
      subst (DuePermits (library old.state (faults old.store.shelf) objects) (lone (library old.state (faults old.store.shelf) objects) (step.Asked call) moment said))
          (sym (is_due objects)) (inl (record { reply = refl; faults = refl }), refl),
      refl,
    ),
  ))

  -- a failure of the shelf, or want of memory, where the text was to be another
  unwritten_changed : (fault : StoreFault) → ((objects : Objects) → IsFault objects (answer_of said (Err fault))) → IsTrue (is_free_reply (answer_of said (Err fault)))
      → ((objects : Objects) → IsToldDamage objects (answer_of said (Err fault))) → Counts (faults old.store.shelf) (faults store.shelf) (answer_of said (Err fault))
      → state ≡ old.state → next ≢ old.state → LeftBy fault old.unsettled old.state next (status_of contents old.store) still (status_of contents store)
      → Serves contents may_give texts faults (at_rest old) call moment (answer_of said (Err fault)) (depot_of store state still None)
  unwritten_changed fault is_fault free damage count stays apart writes = record {
    told = refused_by fault is_fault count stays;
    may_come = subst (λ o. MayAnswer old.store.index (may_give store.shelf) call.act o (answer_of said (Err fault))) (sym is_decided) (inr free);
    damage = λ objects told. damage objects;
    count = count;
    left = stays;
    fresh = refl;
    marked = refl;
    lying = λ _. lying;
    slot = refused fault refl said plain would (λ same. apart (sym is_next ∙ same)) (subst (λ st. LeftBy fault old.unsettled old.state st (status_of contents old.store) still (status_of contents store)) (sym is_next) writes);
  }

  -- an answer that is no refusal, where it and the slot are told so
  served : state ≡ next → faults store.shelf ≡ faults old.store.shelf
      → ((s : State) → state_of contents faults (at_rest old) ≡ Some s → AnswersBySome s call moment said (state_of contents faults (depot_of store state still None)))
      → SlotSo (Would contents faults (at_rest old) call moment) call moment said old.unsettled old.state (status_of contents old.store) still state (status_of contents store)
      (texts old.store.shelf) (texts store.shelf)
      → Serves contents may_give texts faults (at_rest old) call moment said (depot_of store state still None)
  served ok count answers slot = record {
    told = answers;
    may_come = subst (λ o. MayAnswer old.store.index (may_give store.shelf) call.act o said) (sym is_decided) (inl refl);
    damage = λ objects told. told_no_damage objects said plain;
    count = ok_counts count;
    left = ok_left ok;
    fresh = refl;
    marked = refl;
    lying = λ _. lying;
    slot = slot;
  }

  -- an answer, or a failure of the shelf or want of memory
  pub serves_changed : (result : Result ⊤ StoreFault) → OnOk result (state ≡ next) → OnErr result (state ≡ old.state)
      → TextSo old.unsettled old.state next (status_of contents old.store) still (status_of contents store) result
      (texts old.store.shelf) (texts store.shelf)
      → CountsShelf (faults old.store.shelf) (faults store.shelf) result
      → Serves contents may_give texts faults (at_rest old) call moment (answer_of said result) (depot_of store state still None)
  serves_changed (Ok done) ok err (same is settles text written good) count = served ok count (read_by is count ok) (unwritten (ok ∙ is) settles text written)
  serves_changed (Ok done) ok err (changed apart writes) count =
      served ok count (entered_by apart count ok)
      (rewritten plain (λ stays. apart (sym ok ∙ stays)) writes.0
      (subst (λ st. IsWritten st (settled old.unsettled old.state (status_of contents old.store)) (status_of contents store)) (sym ok) writes.1))
  serves_changed (Err Shelf) ok err (same is settles text written good) count = cc
  serves_changed (Err NoMemory) ok err (same is settles text written good) count = cc
  serves_changed (Err (Taken id)) ok err (same is settles text written good) count = cc
  serves_changed (Err (Wrong id)) ok err (same is settles text written good) count = cc
  serves_changed (Err (Damaged want got)) ok err (same is settles text written good) count = cc
  serves_changed (Err Shelf) ok err (changed apart writes) count = unwritten_changed Shelf (λ objects. tt) refl (λ objects. tt) count err apart writes
  serves_changed (Err NoMemory) ok err (changed apart writes) count = unwritten_changed NoMemory (λ objects. tt) refl (λ objects. tt) count err apart writes
  serves_changed (Err (Taken id)) ok err (changed apart writes) count = absurd writes
  serves_changed (Err (Wrong id)) ok err (changed apart writes) count = absurd writes
  serves_changed (Err (Damaged want got)) ok err (changed apart writes) count = absurd writes

-- the depot stays good
pub good_changed : {S : Type 0} (contents : S → Option Contents) (texts faults : S → ℕ) (old : DepotView S) (next : LibState) → IsGood contents faults (at_rest old) → Follows old.state next → next.kept ≢ []
    → ((objects : Objects) (count : ℕ) → objects_of contents old.store ≡ Some objects → IsSound (library next count objects))
    → (store : StoreView S) (state : LibState) (still : Bool) (result : Result ⊤ StoreFault) → OnOk result (state ≡ next) → OnErr result (state ≡ old.state)
    → TextSo old.unsettled old.state next (status_of contents old.store) still (status_of contents store) result
    (texts old.store.shelf) (texts store.shelf)
    → objects_of contents store ≡ objects_of contents old.store → IsGood contents faults (depot_of store state still None)
good_changed contents texts faults old next good follows some sound store state still result ok err (changed apart writes) kept =
    good_rewritten contents faults old good next follows some sound store state still result ok err writes kept
good_changed contents texts faults old next good follows some sound store state still (Ok done) ok err (same is settles text written fine) kept =
    subst (λ (d : DepotView _). IsGood contents faults d) (sym (ap (λ st. depot_of store st still None) (ok ∙ is)
    ∙ ap (λ b. depot_of store old.state b None) settles))
    (good_kept contents faults old good store text kept)
good_changed contents texts faults old next good follows some sound store state still (Err fault) ok err (same is settles text written fine) kept = cc

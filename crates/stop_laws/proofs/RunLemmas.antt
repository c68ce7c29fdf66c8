-- Calls one after another: what the shelf stands for, and which commits stay kept. The key lemmas are stood, kept_run and
-- installed_settled.
use Rattle.std.proofs.Common.{◌≡◌, ◌⊎◌, inl, inr, ℕ, Bool, true, false, if◌then◌else◌, List, [], ◌∷◌, refl, sym, ap, ◌∙◌, subst, true≢false, Option, Some, Ok, Err}
use Rattle.std.specs.FinMap as map
use Rattle.library_rules.specs.Changes.{act_changes, is_refused, moved}
use Rattle.library_rules.specs.History.{lone}
use Rattle.library_rules.specs.LibraryState.{State, is_kept}
use Rattle.library_rules.specs.Recovery.{StandsFor}
use Rattle.library_rules.specs.declared.entry.Step.TheVariants as step
use Rattle.library_rules.proofs.RetriedLemmas.{kept_stays, update_kept}
use Rattle.library_state.specs.StateSpelling.{text_of}
use Rattle.library_state.specs.StateText.{state_of as read_state}
use Rattle.library_state.specs.declared.call.Act.TheVariants as act
use Rattle.library_state.specs.declared.call.Call.{Call}
use Rattle.library_state.specs.declared.reply.Reply.{Reply}
use Rattle.library_state.specs.declared.reply.Reply.TheVariants as reply
use Rattle.library_state.specs.declared.state.LibState.{LibState}
use Rattle.object_store.specs.Shelf.{Contents}
use Rattle.object_store.specs.StoreView.{status_of}
use Rattle.object_store.specs.declared.shelf.Slot.{Slot}
use Rattle.depot.specs.Answering.{SlotSo, Would, next_state, refused, rewritten, state_after, unwritten}
use Rattle.depot.specs.DepotView.{DepotView, IsGood, library, state_of}
use Rattle.depot.specs.Story.{Done, answered, turned, given_token, IsAnswered, IsDoneSo, Runs}
use Rattle.depot.specs.declared.turn.Turn.{Turn}
use Rattle.depot.specs.declared.turn.Turn.TheVariants as turn
use Rattle.stop_laws.specs.Stops.{IsOpen, KeepsCommit, Retains, StandsForState, Stood, stands, open_to, WouldMake}
use Rattle.stop_laws.proofs.DoneLemmas.{TextLeaves, is_present, is_same, is_next, good_left, own_text, slot_as, some_same, stands_by_other, stands_by_text, text_left, told_left}

-- ---- kept commits

-- a state alone, as a library
abbrev alone : LibState → State
alone state = library state 0 map.empty

next_keeps : (state : LibState) (call : Call) (moment : ℕ) (said : Reply) (commit : List ℕ) → is_refused said ≡ false → is_kept state.kept commit ≡ true
    → is_kept (next_state state call moment said).kept commit ≡ true
next_keeps state call moment said commit plain kept =
    let s : State = alone state in
    let m : State = moved s [] [] in
    subst (λ (b : Bool). is_kept (if b then m else act_changes call.secret moment call.act said m).state.kept commit ≡ true) plain
    (kept_stays s (lone s (step.Asked call) moment said) commit kept (λ began. absurd (asked_began call began)))
  where
    asked_began : (c : Call) → step.Asked c ≡ step.Began → ⊥
    asked_began c e = cc

after_keeps : (state : LibState) (call : Call) (moment : ℕ) (said : Reply) (commit : List ℕ) → is_kept state.kept commit ≡ true → is_kept (state_after state call moment said).kept commit ≡ true
after_keeps state call moment said commit kept = by (is_refused said) refl
  where
    by : (b : Bool) → is_refused said ≡ b → is_kept (if b then state else next_state state call moment said).kept commit ≡ true
    by true plain = kept
    by false plain = next_keeps state call moment said commit plain kept

module _ {S : Type 0} (contents : S → Option Contents) (may_give : S → Slot → Option (List ℕ) → Type 0) (texts faults : S → ℕ) where
  pub done_keeps : (old : DepotView S) (done : Done) (new : DepotView S) (commit : List ℕ) → IsDoneSo contents may_give texts faults old done new → is_kept old.state.kept commit ≡ true
      → KeepsCommit contents may_give texts faults old done commit → is_kept new.state.kept commit ≡ true
  done_keeps old (answered call moment said) new commit did kept keeps =
      ap (λ (st : LibState). is_kept st.kept commit) did.serves.left ∙ after_keeps old.state call moment said commit kept
  done_keeps old (turned goal moment at_most (turn.Began number)) new commit did kept keeps = ap (λ (st : LibState). is_kept st.kept commit) did.takes.left ∙ keeps
  done_keeps old (turned goal moment at_most (turn.Marked count)) new commit did kept keeps = ap (λ (st : LibState). is_kept st.kept commit) did.takes.left ∙ kept
  done_keeps old (turned goal moment at_most (turn.Swept keys)) new commit did kept keeps = ap (λ (st : LibState). is_kept st.kept commit) did.takes.left ∙ kept
  done_keeps old (turned goal moment at_most (turn.Ended number)) new commit did kept keeps = ap (λ (st : LibState). is_kept st.kept commit) did.takes.left ∙ kept
  done_keeps old (turned goal moment at_most (turn.Over number)) new commit did kept keeps = ap (λ (st : LibState). is_kept st.kept commit) did.takes.left ∙ kept
  done_keeps old (turned goal moment at_most (turn.Refused why keys)) new commit did kept keeps = ap (λ (st : LibState). is_kept st.kept commit) did.takes.left ∙ kept
  done_keeps old (given_token user secret right (Ok done)) new commit did kept keeps = ap (λ (st : LibState). is_kept st.kept commit) did.ok ∙ kept
  done_keeps old (given_token user secret right (Err fault)) new commit did kept keeps = ap (λ (st : LibState). is_kept st.kept commit) did.err ∙ kept

  pub would_keeps : (old : DepotView S) (done : Done) (next : LibState) (commit : List ℕ) → WouldMake contents may_give texts faults old done next → is_kept old.state.kept commit ≡ true
      → KeepsCommit contents may_give texts faults old done commit → is_kept next.kept commit ≡ true
  would_keeps old (answered call moment said) next commit would kept keeps =
      ap (λ (st : LibState). is_kept st.kept commit) (sym would.makes) ∙ next_keeps old.state call moment would.said commit would.plain kept
  would_keeps old (turned goal moment at_most taken) next commit would kept keeps =
      ap (λ (st : LibState). is_kept st.kept commit) would.2
      ∙ subst (λ (u : Turn). KeepsCommit contents may_give texts faults old (turned goal moment at_most u) commit) would.0 keeps refl would.1
  would_keeps old (given_token user secret right result) next commit would kept keeps = ap (λ (st : LibState). is_kept st.kept commit) would.1 ∙ kept

  pub kept_run : (start : DepotView S) (dones : List Done) (now : DepotView S) (runs : Runs contents may_give texts faults start dones now) (commit : List ℕ) → is_kept start.state.kept commit ≡ true
      → Retains contents may_give texts faults start dones now runs commit
      → (is_kept now.state.kept commit ≡ true) × ((next : LibState) → IsOpen contents may_give texts faults start dones now runs next → is_kept next.kept commit ≡ true)
  kept_run start [] now runs commit kept retains = (ap (λ (d : DepotView S). is_kept d.state.kept commit) runs ∙ kept, λ next still. absurd still)
  kept_run start (done ∷ earlier) now runs commit kept retains = on (kept_run start earlier runs.0 runs.1 commit kept retains.0)
    where
      by : is_kept runs.0.state.kept commit ≡ true → ((next : LibState) → IsOpen contents may_give texts faults start earlier runs.0 runs.1 next → is_kept next.kept commit ≡ true)
          → (next : LibState) → IsOpen contents may_give texts faults start (done ∷ earlier) now runs next → is_kept next.kept commit ≡ true
      by here before next (inl would) = would_keeps runs.0 done next commit would here retains.1
      by here before next (inr still) = before next still.2

      on : (is_kept runs.0.state.kept commit ≡ true)
          × ((next : LibState) → IsOpen contents may_give texts faults start earlier runs.0 runs.1 next → is_kept next.kept commit ≡ true)
          → (is_kept now.state.kept commit ≡ true)
          × ((next : LibState) → IsOpen contents may_give texts faults start (done ∷ earlier) now runs next → is_kept next.kept commit ≡ true)
      on before = (done_keeps runs.0 done now commit runs.2 before.0 retains.1, by before.0 before.1)

  -- an update that was answered
  pub installed_settled : (old : DepotView S) (call : Call) (moment : ℕ) (head pushed : List ℕ) (new : DepotView S) → IsAnswered contents may_give texts faults old call moment (reply.Updated head) new
      → call.act ≡ act.Update pushed → (is_kept new.state.kept pushed ≡ true) × (is_kept old.state.kept pushed ≡ false → new.unsettled ≡ false)
  installed_settled old call moment head pushed new did updates = (kept, λ lacked. settled lacked did.serves.slot)
    where
      kept : is_kept new.state.kept pushed ≡ true
      kept = ap (λ (st : LibState). is_kept st.kept pushed) did.serves.left
          ∙ update_kept (alone old.state) (lone (alone old.state) (step.Asked call) moment (reply.Updated head)) pushed
          (record { call = call; head = head; asked = refl; updates = updates; answers = refl })

      not_refused : (why : _) → reply.Updated head ≡ reply.Refused why → ⊥
      not_refused why e = cc

      settled : is_kept old.state.kept pushed ≡ false
          → SlotSo (Would contents faults old call moment) call moment (reply.Updated head) old.unsettled old.state (status_of contents old.store) new.unsettled new.state (status_of contents new.store)
          (texts old.store.shelf) (texts new.store.shelf) → new.unsettled ≡ false
      settled lacked (unwritten same still slot count) = absurd (true≢false (sym kept ∙ ap (λ (st : LibState). is_kept st.kept pushed) same ∙ lacked))
      settled lacked (rewritten plain apart done text) = done
      settled lacked (refused fault is said plain could apart slot) = absurd (not_refused _ is)

  -- ---- what the shelf stands for

  told_run : (start : DepotView S) (dones : List Done) (now : DepotView S) → Runs contents may_give texts faults start dones now → (first : Contents) → contents start.store.shelf ≡ Some first
      → (held : Contents) × (contents now.store.shelf ≡ Some held)
  told_run start [] now runs first there = (first, ap (λ (d : DepotView S). contents d.store.shelf) runs ∙ there)
  told_run start (done ∷ earlier) now runs first there =
      let at = told_run start earlier runs.0 runs.1 first there in
      told_left contents may_give texts faults runs.0 done now at.0 runs.2 at.1

  good_run : (start : DepotView S) (dones : List Done) (now : DepotView S) → Runs contents may_give texts faults start dones now → IsGood contents faults start → IsGood contents faults now
  good_run start [] now runs good = subst (IsGood contents faults) (sym runs) good
  good_run start (done ∷ earlier) now runs good = good_left contents may_give texts faults runs.0 done now runs.2

  -- its text, or one to which it is open
  data TextStands (start : DepotView S) (dones : List Done) (now : DepotView S) (runs : Runs contents may_give texts faults start dones now) (text : Option (List ℕ)) : Type 0 where
    has_own : text ≡ Some (text_of now.state) → TextStands start dones now runs text
    has_open : now.unsettled ≡ true → (next : LibState) → IsOpen contents may_give texts faults start dones now runs next → read_state (text_of next) ≡ Ok next → text ≡ Some (text_of next)
        → TextStands start dones now runs text

  text_run : (start : DepotView S) (dones : List Done) (now : DepotView S) (runs : Runs contents may_give texts faults start dones now) (first held : Contents) → IsGood contents faults start
      → start.unsettled ≡ false → contents start.store.shelf ≡ Some first → contents now.store.shelf ≡ Some held → TextStands start dones now runs held.status
  text_run start [] now runs first held good settled there left =
      has_own (ap (λ (c : Contents). c.status) (some_same (sym left ∙ ap (λ (d : DepotView S). contents d.store.shelf) runs ∙ there))
      ∙ own_text contents may_give texts faults start first good there settled
      ∙ ap (λ (d : DepotView S). Some (text_of d.state)) (sym runs))
  text_run start (done ∷ earlier) now runs first held good settled there left =
      by (λ before lay. text_run start earlier runs.0 runs.1 first before good settled there lay)
      (text_left contents may_give texts faults runs.0 at.0 (good_run start earlier runs.0 runs.1 good) at.1 now held left done runs.2)
    where
      at : (before : Contents) × (contents runs.0.store.shelf ≡ Some before)
      at = told_run start earlier runs.0 runs.1 first there

      slot_is : held.status ≡ at.0.status → status_of contents now.store ≡ status_of contents runs.0.store
      slot_is same = slot_as contents may_give texts faults now.store held left ∙ ap Some same ∙ sym (slot_as contents may_give texts faults runs.0.store at.0 at.1)

      stays : runs.0.unsettled ≡ true → now.unsettled ≡ true → now.state ≡ runs.0.state → held.status ≡ at.0.status → TextStands start earlier runs.0 runs.1 at.0.status
          → TextStands start (done ∷ earlier) now runs held.status
      stays was still same slot (has_own text) = has_own (slot ∙ text ∙ ap (λ (st : LibState). Some (text_of st)) (sym same))
      stays was still same slot (has_open before next opens reads text) = has_open still next (inr (was, slot_is slot, opens)) reads (slot ∙ text)

      by : ((before : Contents) → contents runs.0.store.shelf ≡ Some before → TextStands start earlier runs.0 runs.1 before.status)
          → TextLeaves contents may_give texts faults runs.0 done at.0.status now held.status → TextStands start (done ∷ earlier) now runs held.status
      by before (is_present text) = has_own text
      by before (is_same was still same slot) = stays was still same slot (before at.0 at.1)
      by before (is_next still next would reads text) = has_open still next (inl would) reads text

  pub stood : (start : DepotView S) (dones : List Done) (now : DepotView S) (runs : Runs contents may_give texts faults start dones now) (first held : Contents) (t : State)
      → IsGood contents faults start → start.unsettled ≡ false → contents start.store.shelf ≡ Some first → contents now.store.shelf ≡ Some held → state_of contents faults now ≡ Some t
      → Stood contents may_give texts faults start dones now runs held t
  stood start dones now runs first held t good settled there left told = by (text_run start dones now runs first held good settled there left)
    where
      after : IsGood contents faults now
      after = good_run start dones now runs good

      open_or : (next : LibState) → now.unsettled ≡ true → IsOpen contents may_give texts faults start dones now runs next → StandsFor held.status held.objects t ⊎ StandsForState held t next
          → Stood contents may_give texts faults start dones now runs held t
      open_or next still opens (inl own) = stands own
      open_or next still opens (inr other) = open_to still next opens other

      by : TextStands start dones now runs held.status → Stood contents may_give texts faults start dones now runs held t
      by (has_own text) = stands (stands_by_text contents may_give texts faults now held t after left told text)
      by (has_open still next opens reads text) = open_or next still opens (stands_by_other contents may_give texts faults now held t after left told next still reads text)

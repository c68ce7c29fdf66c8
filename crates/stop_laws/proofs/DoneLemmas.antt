-- What stands in the status slot, and what the shelf stands for, after one call. The key lemmas are text_left, good_left, told_left
-- and leaves.
use Rattle.std.proofs.Common.{◌≡◌, ◌≢◌, ◌⊎◌, inl, inr, ℕ, ◌<◌, ◌≤◌, Bool, true, false, if◌then◌else◌, nat_le, List, [], length, refl, sym, ap, ◌∙◌, subst, Option, None, Some, option_map, Result, Ok, Err, arith}
use Rattle.std.specs.Prelude.{⊤}
use Rattle.std.proofs.lemmas.Bool.{leb-false}
use Rattle.ids.specs.declared.key.Key.{Key}
use Rattle.library_rules.specs.Changes.{act_changes, apply, begun, is_refused, moved}
use Rattle.library_rules.specs.Creation.{with_token}
use Rattle.library_rules.specs.History.{lone}
use Rattle.library_rules.specs.LibraryState.{IsSound, Running, State, last_number}
use Rattle.library_rules.specs.Recovery.{StandsFor}
use Rattle.library_rules.specs.declared.entry.Entry.{Entry}
use Rattle.library_rules.specs.declared.entry.Step.TheVariants as step
use Rattle.library_rules.proofs.CreatedLemmas.{sound_with_token}
use Rattle.library_rules.proofs.ProperTextLemmas.{sound_is_proper}
use Rattle.library_rules.proofs.ReopenedLemmas.{stands_by_its_objects}
use Rattle.library_rules.proofs.SoundLemmas.{sound_begun}
use Rattle.library_rules.proofs.StepLemmas.{sound_apply}
use Rattle.library_state.specs.ProperState.{IsProper}
use Rattle.library_state.specs.StateSpelling.{text_of}
use Rattle.library_state.specs.StateText.{state_of as read_state}
use Rattle.library_state.specs.Tokens.{is_taken}
use Rattle.library_state.specs.declared.call.Call.{Call}
use Rattle.library_state.specs.declared.refusal.Refusal.{Refusal}
use Rattle.library_state.specs.declared.refusal.Refusal.TheVariants as refusal
use Rattle.library_state.specs.declared.reply.Reply.{Reply}
use Rattle.library_state.specs.declared.reply.Reply.TheVariants as reply
use Rattle.library_state.specs.declared.right.Right.{Right}
use Rattle.library_state.specs.declared.state.LibState.{LibState}
use Rattle.object_store.specs.Shelf.{Contents}
use Rattle.object_store.specs.StoreView.{StoreView, indexed, objects_of, status_of}
use Rattle.object_store.specs.declared.error.StoreFault.{StoreFault}
use Rattle.object_store.specs.declared.error.StoreFault.TheVariants.{Shelf}
use Rattle.object_store.specs.declared.shelf.Slot.{Slot}
use Rattle.depot.specs.Answering.{MayAnswerSo, SlotSo, Would, next_state, refused, rewritten, state_after, unwritten}
use Rattle.depot.specs.CollectionTurns.{IsRunning, SettlesBefore, TakesTurn, TurnSlotSo, removed_in, state_after_turn}
use Rattle.depot.specs.DepotView.{DepotView, Holds, HoldsOther, IsGood, library, running_library, state_of}
use Rattle.depot.specs.NextState.{with_begin, with_new_token}
use Rattle.depot.specs.Refusals.{store_refusal}
use Rattle.depot.specs.Standing.{IsOnShelf, StandsForNext}
use Rattle.depot.specs.Tokens.{token_refusal}
use Rattle.depot.specs.Writing.{IsWritten, LeftBy, ReadsBack, settled}
use Rattle.depot.specs.declared.error.TokenFault.{TokenFault}
use Rattle.depot.specs.declared.error.TokenFault.TheVariants as token
use Rattle.depot.specs.declared.turn.Turn.{Turn}
use Rattle.depot.specs.declared.turn.Turn.TheVariants as turn
use Rattle.depot.proofs.StandingLemmas.{indexed_lies, on_shelf}
use Rattle.depot.proofs.ToldLemmas.{MappedAt, mapped_at}
use Rattle.depot.specs.Story.{AddsToken, Done, answered, turned, given_token, IsDoneSo}
use Rattle.stop_laws.specs.Stops.{Leaves, present, open_before, would_be, StandsForState, WouldMake}
use Rattle.stop_laws.proofs.SlotLemmas.{LeftText, text_present, text_same, text_next, left_text, same_slot, settled_text, written_text}

pub some_same : {A : Type 0} {x y : A} → Some x ≡ Some y → x ≡ y
some_same e = cc

pub ok_same : {A E : Type 0} {x y : A} → ◌≡◌ {A = Result A E} (Ok x) (Ok y) → x ≡ y
ok_same e = cc

-- ---- which texts are read back

-- the state that an answer would have made
proper_next : (s : State) (call : Call) (moment : ℕ) (said : Reply) → IsSound s → is_refused said ≡ false → MayAnswerSo s call moment said → IsProper (next_state s.state call moment said)
proper_next s call moment said sound plain may =
    let e : Entry = record (lone s (step.Asked call) moment said) { added = may.0 } in
    let m : State = moved s may.0 [] in
    subst IsProper (ap (λ (b : Bool). (if b then m else act_changes call.secret moment call.act said m).state) plain)
    (sound_is_proper (apply s e) (sound_apply s e may.1 sound))

-- the state of a collection that began
proper_begun : (s : State) (moment : ℕ) → IsSound s → s.state.collection < last_number → IsProper (with_begin moment s.state)
proper_begun s moment sound less = sound_is_proper (begun moment s) (sound_begun s moment less sound)

-- the state with a token more
no_refusal : (taken full : Bool) → (if taken then Some token.SecretTaken else if full then Some token.Full else None) ≡ None → (taken ≡ false) × (full ≡ false)
no_refusal true full e = cc
no_refusal false true e = cc
no_refusal false false e = (refl, refl)

room : (n : ℕ) → nat_le 1000 n ≡ false → n < 1000
room n e = leb-false 1000 n e

proper_token : (s : State) (user secret : List ℕ) (right : Right) → IsSound s → token_refusal s.state.tokens secret ≡ None → 1 ≤ length user → length user ≤ 255
    → IsProper (with_new_token user secret right s.state)
proper_token s user secret right sound none some_user fits =
    let free = no_refusal (is_taken s.state.tokens secret) (nat_le 1000 (length s.state.tokens)) none in
    sound_is_proper (with_token user secret right s) (sound_with_token s user secret right sound free.0 (room (length s.state.tokens) free.1) some_user fits)

-- ---- turns and faults that are not the same

spent_store : turn.Refused refusal.Store [] ≡ turn.Refused refusal.Spent [] → ⊥
spent_store e = cc

refused_over : (why : Refusal) (keys : List Key) (number : ℕ) → turn.Refused why keys ≡ turn.Over number → ⊥
refused_over why keys number e = cc

some_none : {A : Type 0} (x : A) → Some x ≡ None → ⊥
some_none x e = cc

pub below : (n : ℕ) → n ≤ last_number → (n ≡ last_number → ⊥) → n < last_number
below n most apart = omega (arith, most, apart)

least_last : (n : ℕ) → n ≡ last_number → last_number ≤ n
least_last n is = omega (arith, is)

module _ {S : Type 0} (contents : S → Option Contents) (may_give : S → Slot → Option (List ℕ) → Type 0) (texts faults : S → ℕ) where
  -- ---- where a library is told

  -- the state of a library whose shelf tells what it holds
  pub told_as : (depot : DepotView S) (held : Contents) → contents depot.store.shelf ≡ Some held
      → state_of contents faults depot ≡ Some (running_library depot.state depot.running (faults depot.store.shelf) (indexed depot.store.index held))
  told_as depot held there = ap (option_map (running_library depot.state depot.running (faults depot.store.shelf))) (ap (option_map (indexed depot.store.index)) there)

  pub slot_as : (store : StoreView S) (held : Contents) → contents store.shelf ≡ Some held → status_of contents store ≡ Some held.status
  slot_as store held there = ap (option_map (λ (c : Contents). c.status)) there

  -- a state is told by objects, and these by contents
  held_of : (depot : DepotView S) (s : State) → state_of contents faults depot ≡ Some s → (held : Contents) × (contents depot.store.shelf ≡ Some held)
  held_of depot s told =
      let at : MappedAt (running_library depot.state depot.running (faults depot.store.shelf)) (objects_of contents depot.store) s = mapped_at _ _ _ told in
      let lies : MappedAt (indexed depot.store.index) (contents depot.store.shelf) at.value = mapped_at _ _ _ at.is in
      (lies.value, lies.is)

  -- so is what is left
  pub told_left : (old : DepotView S) (done : Done) (new : DepotView S) (before : Contents) → IsDoneSo contents may_give texts faults old done new
      → contents old.store.shelf ≡ Some before → (held : Contents) × (contents new.store.shelf ≡ Some held)
  told_left old (answered call moment said) new before did there =
      let answers = did.serves.told (running_library old.state old.running (faults old.store.shelf) (indexed old.store.index before)) (told_as old before there) in
      held_of new answers.1.state answers.1.left
  told_left old (turned goal moment at_most taken) new before did there =
      let turns = did.takes.told (running_library old.state old.running (faults old.store.shelf) (indexed old.store.index before)) (told_as old before there) in
      held_of new turns.state turns.left
  told_left old (given_token user secret right result) new before did there =
      let lies : MappedAt (indexed new.store.index) (contents new.store.shelf) (indexed old.store.index before) =
      mapped_at _ _ _ (did.stays ∙ ap (option_map (indexed old.store.index)) there)
      in
      (lies.value, lies.is)

  pub good_left : (old : DepotView S) (done : Done) (new : DepotView S) → IsDoneSo contents may_give texts faults old done new → IsGood contents faults new
  good_left old (answered call moment said) new did = did.good
  good_left old (turned goal moment at_most taken) new did = did.good
  good_left old (given_token user secret right result) new did = did.good

  -- a settled slot holds the library's text
  pub own_text : (old : DepotView S) (before : Contents) → IsGood contents faults old → contents old.store.shelf ≡ Some before → old.unsettled ≡ false → before.status ≡ Some (text_of old.state)
  own_text old before good there settled =
      subst (λ (b : Bool). Holds b old.state (indexed old.store.index before) before.status) settled
      (good.text (indexed old.store.index before) before.status (ap (option_map (indexed old.store.index)) there) (slot_as old.store before there))

  -- ---- what the slot holds

  -- the text of the state that is left; what it held, where that was and is open; or the text that was due as the shelf failed
  pub data TextLeaves (old : DepotView S) (done : Done) (before : Option (List ℕ)) (new : DepotView S) (now : Option (List ℕ)) : Type 0 where
    is_present : now ≡ Some (text_of new.state) → TextLeaves old done before new now
    is_same : old.unsettled ≡ true → new.unsettled ≡ true → new.state ≡ old.state → now ≡ before → TextLeaves old done before new now
    is_next : new.unsettled ≡ true → (next : LibState) → WouldMake contents may_give texts faults old done next → read_state (text_of next) ≡ Ok next → now ≡ Some (text_of next)
        → TextLeaves old done before new now

  module _ (old : DepotView S) (before : Contents) (good : IsGood contents faults old) (there : contents old.store.shelf ≡ Some before) (new : DepotView S) (held : Contents)
      (left : contents new.store.shelf ≡ Some held) where
    abbrev s : State
    s = running_library old.state old.running (faults old.store.shelf) (indexed old.store.index before)

    sound : IsSound s
    sound = good.sound s (told_as old before there)

    own : old.unsettled ≡ false → before.status ≡ Some (text_of old.state)
    own = own_text old before good there

    -- what is left of a state that is told by another name
    left_from : (done : Done) (st : LibState) → new.state ≡ st → held.status ≡ Some (text_of st) → TextLeaves old done before.status new held.status
    left_from done st same text = is_present (text ∙ ap (λ (x : LibState). Some (text_of x)) (sym same))

    -- a slot that is as it was
    as_it_was : (done : Done) → new.state ≡ old.state → new.unsettled ≡ old.unsettled → Some held.status ≡ Some before.status → TextLeaves old done before.status new held.status
    as_it_was done same still slot = by old.unsettled refl
      where
        by : (b : Bool) → old.unsettled ≡ b → TextLeaves old done before.status new held.status
        by true was = is_same was (still ∙ was) same (same_slot slot)
        by false was = left_from done old.state same (same_slot slot ∙ own was)

    -- a write that was refused, of a state that is left as it was
    refused_write : (done : Done) (fault : StoreFault) (next : LibState) → new.state ≡ old.state → LeftText fault old.unsettled old.state next before.status new.unsettled held.status
        → (fault ≡ Shelf → new.unsettled ≡ true → ReadsBack next → held.status ≡ Some (text_of next) → TextLeaves old done before.status new held.status)
        → TextLeaves old done before.status new held.status
    refused_write done fault next same (text_present text) due = left_from done old.state same text
    refused_write done fault next same (text_same was is text) due = is_same was is same text
    refused_write done fault next same (text_next failed is reads text) due = due failed is reads text

    -- ---- a call

    call_text : (call : Call) (moment : ℕ) (r : Reply) (n m : ℕ)
        → SlotSo (Would contents faults old call moment) call moment r old.unsettled old.state (Some before.status) new.unsettled new.state (Some held.status) n m
        → new.state ≡ state_after old.state call moment r → TextLeaves old (answered call moment r) before.status new held.status
    call_text call moment r n m (unwritten same still slot count) after = as_it_was (answered call moment r) same still slot
    call_text call moment r n m (rewritten plain apart done text) after = is_present (written_text new.state old.state old.unsettled before.status held.status text)
    call_text call moment r n m (refused fault is said plain could apart slot) after =
        let next : LibState = next_state old.state call moment said in
        let same : new.state ≡ old.state = after ∙ ap (state_after old.state call moment) is in
        refused_write (answered call moment r) fault next same (left_text fault old.unsettled old.state next before.status new.unsettled held.status own slot)
        (λ failed still reads text. is_next still next (record { failed = is ∙ ap (λ (f : StoreFault). reply.Refused (store_refusal f)) failed; said = said; plain = plain; could = could; makes = refl })
        (reads (proper_next s call moment said sound plain (could s (told_as old before there)))) text)

    -- ---- a turn

    -- a begin that was refused
    begin_text : (goal : Option ℕ) (moment at_most : ℕ) (taken : Turn) → TakesTurn contents may_give texts faults old goal moment at_most taken new
        → taken ≡ turn.Refused refusal.Store [] → old.running ≡ None → new.unsettled ≡ true → ReadsBack (with_begin moment old.state)
        → held.status ≡ Some (text_of (with_begin moment old.state)) → TextLeaves old (turned goal moment at_most taken) before.status new held.status
    begin_text goal moment at_most taken takes is runs still reads text =
        is_next still (with_begin moment old.state) (is, runs, refl) (reads (proper_begun s moment sound less)) text
      where
        idle : (g : Option ℕ) → goal ≡ g → last_number ≤ old.state.collection → ⊥
        idle None aims last = spent_store (sym is ∙ takes.may_come.spent aims runs last)
        idle (Some number) aims last =
            refused_over refusal.Store [] number (sym is ∙ takes.may_come.over number aims (λ run. subst (λ (o : Option Running). IsRunning o old.state.collection number) runs run))

        less : old.state.collection < last_number
        less = below old.state.collection sound.numbers.collections (λ last. idle goal refl (least_last old.state.collection last))

    -- a turn that was refused beside a collection
    beside_text : (done : Done) (removed : List Key) → new.state ≡ old.state → SettlesBefore old.unsettled old.state (Some before.status) new.unsettled (Some held.status) removed
        → TextLeaves old done before.status new held.status
    beside_text done removed same (inl (still, slot)) = left_from done old.state same (settled_text old.state old.unsettled before.status held.status own slot)
    beside_text done removed same (inr (none, still, inl slot)) = as_it_was done same still slot
    beside_text done removed same (inr (none, still, inr is)) = left_from done old.state same (same_slot is.text)

    turn_text : (goal : Option ℕ) (moment at_most : ℕ) (taken : Turn) (n m : ℕ) → TakesTurn contents may_give texts faults old goal moment at_most taken new
        → TurnSlotSo moment taken old.unsettled old.state (Some before.status) new.unsettled (Some held.status) n m
        → (old.running ≢ None → SettlesBefore old.unsettled old.state (Some before.status) new.unsettled (Some held.status) (removed_in taken))
        → new.state ≡ state_after_turn old.state moment taken → TextLeaves old (turned goal moment at_most taken) before.status new held.status
    turn_text goal moment at_most (turn.Began number) n m takes slot beside after =
        left_from (turned goal moment at_most (turn.Began number)) (with_begin moment old.state) after
        (written_text (with_begin moment old.state) old.state old.unsettled before.status held.status slot.1)
    turn_text goal moment at_most (turn.Marked count) n m takes slot beside after = as_it_was (turned goal moment at_most (turn.Marked count)) after slot.0 slot.1
    turn_text goal moment at_most (turn.Swept keys) n m takes slot beside after =
        left_from (turned goal moment at_most (turn.Swept keys)) old.state after (settled_text old.state old.unsettled before.status held.status own slot.1)
    turn_text goal moment at_most (turn.Ended number) n m takes slot beside after = as_it_was (turned goal moment at_most (turn.Ended number)) after slot.0 slot.1
    turn_text goal moment at_most (turn.Over number) n m takes slot beside after = as_it_was (turned goal moment at_most (turn.Over number)) after slot.0 slot.1
    turn_text goal moment at_most (turn.Refused why keys) n m takes slot beside after = by old.running refl slot
      where
        by : (r : Option Running) → old.running ≡ r → TurnSlotSo moment (turn.Refused why keys) old.unsettled old.state (Some before.status) new.unsettled (Some held.status) n m
            → TextLeaves old (turned goal moment at_most (turn.Refused why keys)) before.status new held.status
        by (Some running) runs slot = beside_text (turned goal moment at_most (turn.Refused why keys)) keys after (beside (λ none. some_none running (sym runs ∙ none)))
        by None runs (inl slot) = as_it_was (turned goal moment at_most (turn.Refused why keys)) after slot.0 slot.1
        by None runs (inr (inl slot)) =
            left_from (turned goal moment at_most (turn.Refused why keys)) old.state after (settled_text old.state old.unsettled before.status held.status own slot.1)
        by None runs (inr (inr slot)) =
            let fault : StoreFault = slot.0 in
            refused_write (turned goal moment at_most (turn.Refused why keys)) fault (with_begin moment old.state) after
            (left_text fault old.unsettled old.state (with_begin moment old.state) before.status new.unsettled held.status own slot.3)
            (λ failed still reads text. begin_text goal moment at_most (turn.Refused why keys) takes
            (ap (λ (k : List Key). turn.Refused why k) slot.2 ∙ ap (λ (w : Refusal). turn.Refused w []) (slot.1 ∙ ap store_refusal failed)) runs still reads text)

    -- ---- a token

    token_text : (user secret : List ℕ) (right : Right) (result : Result ⊤ TokenFault) → AddsToken contents faults old user secret right result new
        → TextLeaves old (given_token user secret right result) before.status new held.status
    token_text user secret right (Ok done) adds =
        left_from (given_token user secret right (Ok done)) (with_new_token user secret right old.state) adds.ok
        (written_text (with_new_token user secret right old.state) old.state old.unsettled before.status held.status
        (subst (λ (o : Option (Option (List ℕ))). IsWritten (with_new_token user secret right old.state) (settled old.unsettled old.state o) (Some held.status)) (slot_as old.store before there)
        (subst (λ (o : Option (Option (List ℕ))). IsWritten (with_new_token user secret right old.state) (settled old.unsettled old.state (status_of contents old.store)) o) (slot_as new.store held left)
        adds.text.1)))
    token_text user secret right (Err token.SecretTaken) adds = unasked (adds.untouched refl)
      where
        unasked : new ≡ old → TextLeaves old (given_token user secret right (Err token.SecretTaken)) before.status new held.status
        unasked same = as_it_was (given_token user secret right (Err token.SecretTaken)) (ap (λ (d : DepotView S). d.state) same) (ap (λ (d : DepotView S). d.unsettled) same)
            (sym (slot_as new.store held left) ∙ ap (λ (d : DepotView S). status_of contents d.store) same ∙ slot_as old.store before there)
    token_text user secret right (Err token.Full) adds = unasked (adds.untouched refl)
      where
        unasked : new ≡ old → TextLeaves old (given_token user secret right (Err token.Full)) before.status new held.status
        unasked same = as_it_was (given_token user secret right (Err token.Full)) (ap (λ (d : DepotView S). d.state) same) (ap (λ (d : DepotView S). d.unsettled) same)
            (sym (slot_as new.store held left) ∙ ap (λ (d : DepotView S). status_of contents d.store) same ∙ slot_as old.store before there)
    token_text user secret right (Err (token.Store fault)) adds =
        refused_write (given_token user secret right (Err (token.Store fault))) fault (with_new_token user secret right old.state) adds.err
        (left_text fault old.unsettled old.state (with_new_token user secret right old.state) before.status new.unsettled held.status own
        (subst (λ (o : Option (Option (List ℕ))). LeftBy fault old.unsettled old.state (with_new_token user secret right old.state) o new.unsettled (Some held.status)) (slot_as old.store before there)
        (subst (λ (o : Option (Option (List ℕ))). LeftBy fault old.unsettled old.state (with_new_token user secret right old.state) (status_of contents old.store) new.unsettled o) (slot_as new.store held left)
        adds.text)))
        (due fault)
      where
        due : (f : StoreFault) → f ≡ Shelf → new.unsettled ≡ true → ReadsBack (with_new_token user secret right old.state) → held.status ≡ Some (text_of (with_new_token user secret right old.state))
            → TextLeaves old (given_token user secret right (Err (token.Store f))) before.status new held.status
        due f failed still reads text =
            is_next still (with_new_token user secret right old.state) (ap (λ (x : StoreFault). Err (token.Store x)) failed, refl)
            (reads (proper_token s user secret right sound adds.asked adds.fits.0 adds.fits.1)) text

    -- ---- each of these

    pub text_left : (done : Done) → IsDoneSo contents may_give texts faults old done new → TextLeaves old done before.status new held.status
    text_left (answered call moment r) did =
        call_text call moment r (texts old.store.shelf) (texts new.store.shelf)
        (subst (λ (o : Option (Option (List ℕ))). SlotSo (Would contents faults old call moment) call moment r old.unsettled old.state o new.unsettled new.state (Some held.status)
        (texts old.store.shelf) (texts new.store.shelf)) (slot_as old.store before there)
        (subst (λ (o : Option (Option (List ℕ))). SlotSo (Would contents faults old call moment) call moment r old.unsettled old.state (status_of contents old.store) new.unsettled new.state o
        (texts old.store.shelf) (texts new.store.shelf)) (slot_as new.store held left) did.serves.slot))
        did.serves.left
    text_left (turned goal moment at_most taken) did =
        turn_text goal moment at_most taken (texts old.store.shelf) (texts new.store.shelf) did.takes
        (subst (λ (o : Option (Option (List ℕ))). TurnSlotSo moment taken old.unsettled old.state o new.unsettled (Some held.status)
        (texts old.store.shelf) (texts new.store.shelf)) (slot_as old.store before there)
        (subst (λ (o : Option (Option (List ℕ))). TurnSlotSo moment taken old.unsettled old.state (status_of contents old.store) new.unsettled o
        (texts old.store.shelf) (texts new.store.shelf)) (slot_as new.store held left) did.takes.slot))
        (λ runs. subst (λ (o : Option (Option (List ℕ))). SettlesBefore old.unsettled old.state o new.unsettled (Some held.status) (removed_in taken)) (slot_as old.store before there)
        (subst (λ (o : Option (Option (List ℕ))). SettlesBefore old.unsettled old.state (status_of contents old.store) new.unsettled o (removed_in taken)) (slot_as new.store held left)
        (did.takes.beside runs)))
        did.takes.left
    text_left (given_token user secret right result) did = token_text user secret right result did

  -- ---- what the shelf stands for

  module _ (new : DepotView S) (held : Contents) (t : State) (good : IsGood contents faults new) (left : contents new.store.shelf ≡ Some held) (told : state_of contents faults new ≡ Some t) where
    -- by its own text the library
    pub stands_by_text : held.status ≡ Some (text_of new.state) → StandsFor held.status held.objects t
    stands_by_text text = on_shelf contents faults (record new { unsettled = false }) held t
        (record {
          head = good.head;
          reads = good.reads;
          fresh = good.fresh;
          sound = good.sound;
          text = λ objects status is at. some_same (sym at ∙ slot_as new.store held left) ∙ text;
        })
        left told

    other_state : (next : LibState) → read_state (text_of next) ≡ Ok next → held.status ≡ Some (text_of next) → HoldsOther new.state (indexed new.store.index held) held.status
        → StandsForState held (running_library new.state new.running (faults new.store.shelf) (indexed new.store.index held)) next
    other_state next reads text other =
        let same : other.other ≡ next = ok_same (sym other.reads ∙ ap read_state (some_same (sym other.text ∙ text)) ∙ reads) in
        let sound : IsSound (library next (faults new.store.shelf) (indexed new.store.index held)) =
        subst (λ (st : LibState). IsSound (library st (faults new.store.shelf) (indexed new.store.index held))) same (other.sound (faults new.store.shelf))
        in
        record {
          sound = sound;
          stands = stands_by_its_objects (library next (faults new.store.shelf) (indexed new.store.index held)) held.status held.objects sound text reads (indexed_lies new.store.index held);
        }

    -- by a text to which it is open that state, unless it is its own
    pub stands_by_other : (next : LibState) → new.unsettled ≡ true → read_state (text_of next) ≡ Ok next → held.status ≡ Some (text_of next)
        → StandsFor held.status held.objects t ⊎ StandsForState held t next
    stands_by_other next still reads text =
        by (subst (λ (b : Bool). Holds b new.state (indexed new.store.index held) held.status) still
        (good.text (indexed new.store.index held) held.status (ap (option_map (indexed new.store.index)) left) (slot_as new.store held left)))
      where
        by : (held.status ≡ Some (text_of new.state)) ⊎ HoldsOther new.state (indexed new.store.index held) held.status → StandsFor held.status held.objects t ⊎ StandsForState held t next
        by (inl own) = inl (stands_by_text own)
        by (inr other) = inr (subst (λ (z : State). StandsForState held z next) (some_same (sym (told_as new held left) ∙ told)) (other_state next reads text other))

    -- and while it is open, it or the next one
    pub stands_open : new.unsettled ≡ true → StandsFor held.status held.objects t ⊎ StandsForNext held t
    stands_open still = subst (λ (b : Bool). IsOnShelf b held t) still (on_shelf contents faults new held t good left told)

  pub leaves : (old : DepotView S) (done : Done) (new : DepotView S) (before held : Contents) (t : State) → IsGood contents faults old → IsDoneSo contents may_give texts faults old done new
      → contents old.store.shelf ≡ Some before → contents new.store.shelf ≡ Some held → state_of contents faults new ≡ Some t
      → Leaves (WouldMake contents may_give texts faults old done) before.status held old.unsettled new.unsettled t
  leaves old done new before held t good did there left told = by (text_left old before good there new held left done did)
    where
      after : IsGood contents faults new
      after = good_left old done new did

      next_or : (next : LibState) → WouldMake contents may_give texts faults old done next → new.unsettled ≡ true → StandsFor held.status held.objects t ⊎ StandsForState held t next
          → Leaves (WouldMake contents may_give texts faults old done) before.status held old.unsettled new.unsettled t
      next_or next would still (inl own) = present own
      next_or next would still (inr other) = would_be still next would other

      same_or : old.unsettled ≡ true → new.unsettled ≡ true → held.status ≡ before.status → StandsFor held.status held.objects t ⊎ StandsForNext held t
          → Leaves (WouldMake contents may_give texts faults old done) before.status held old.unsettled new.unsettled t
      same_or was still slot (inl own) = present own
      same_or was still slot (inr other) = open_before was still slot other

      by : TextLeaves old done before.status new held.status
          → Leaves (WouldMake contents may_give texts faults old done) before.status held old.unsettled new.unsettled t
      by (is_present text) = present (stands_by_text new held t after left told text)
      by (is_same was still same slot) = same_or was still slot (stands_open new held t after left told still)
      by (is_next still next would reads text) = next_or next would still (stands_by_other new held t after left told next still reads text)

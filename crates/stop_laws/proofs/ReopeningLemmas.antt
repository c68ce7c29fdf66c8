-- What is opened from a shelf that stands for a library, and what a refused making leaves. The key lemmas are opens_again and unmade.
use Rattle.std.proofs.Common.{◌≡◌, ◌≢◌, ◌⊎◌, inl, inr, ℕ, ◌<◌, ◌≤◌, ◌==◌, Bool, true, false, if◌then◌else◌, List, length, refl, sym, ap, ◌∙◌, subst, true≢false, Option, None, Some, option_map, Result, Ok, Err}
use Rattle.std.proofs.lemmas.Bool.{eq-eqb, eqb-true}
use Rattle.ids.specs.Key.{Objects}
use Rattle.library_rules.specs.Changes.{put_new}
use Rattle.library_rules.specs.Creation.{created, first_state, opening_commit, opening_object}
use Rattle.library_rules.specs.LibraryState.{IsSound, State, last_number}
use Rattle.library_rules.specs.Recovery.{StandsFor, opened}
use Rattle.library_rules.proofs.CreatedLemmas.{sound_created}
use Rattle.library_rules.proofs.ProperTextLemmas.{sound_is_proper}
use Rattle.library_rules.proofs.ReopenedLemmas.{sound_opened, stands_by_its_objects}
use Rattle.library_state.specs.ProperState.{IsProper}
use Rattle.library_state.specs.StateSpelling.{text_of}
use Rattle.library_state.specs.StateText.{state_of as read_state}
use Rattle.library_state.specs.declared.state.LibState.{LibState}
use Rattle.object_graph.specs.Objects.{commit_at}
use Rattle.object_graph.specs.Unchanged.{Keeps}
use Rattle.object_store.specs.Shelf.{Contents}
use Rattle.object_store.specs.StoreView.{AddsNoStray, HasNoStray, StoreView, indexed, objects_of, status_of}
use Rattle.object_store.specs.declared.error.StoreFault.{StoreFault}
use Rattle.object_store.specs.declared.error.StoreFault.TheVariants.{Taken, Wrong, Damaged, Shelf, NoMemory}
use Rattle.depot.specs.DepotView.{DepotView, library}
use Rattle.depot.specs.Make.{LeftUnmade, LeftUnmadeBy, untouched, stored, begun}
use Rattle.depot.specs.Start.{IsDueOr, IsFound, LeftUnopened, LeftUnopenedBy, OpensTold, next_opening, raised as raised_text, untouched as left_alone, start_refusal}
use Rattle.depot.specs.Writing.{IsWritten}
use Rattle.depot.specs.declared.error.MakeFault.{MakeFault}
use Rattle.depot.specs.declared.error.MakeFault.TheVariants as make
use Rattle.depot.specs.declared.error.StartFault.{StartFault}
use Rattle.depot.specs.declared.error.StartFault.TheVariants as start
use Rattle.depot.proofs.StandingLemmas.{held_all, indexed_lies, opens}
use Rattle.depot.proofs.ToldLemmas.{MappedAt, mapped_at}
use Rattle.stop_laws.specs.Reopening.{IsAsItWas, IsOpening, IsRaised, IsRefusedMaking, LeavesUnmade, OpensAgain, OpensNot, raised, unwritten, begun as was_begun}
use Rattle.stop_laws.proofs.DoneLemmas.{below, ok_same, some_same}

-- ---- which refusal is due

abbrev worn_or : Bool → Option StartFault
worn_or b = if b then Some start.Worn else None

none_due : (b : Bool) → worn_or b ≡ None → b ≡ false
none_due true e = cc
none_due false e = refl

worn_due : (b : Bool) → worn_or b ≡ Some start.Worn → b ≡ true
worn_due true e = refl
worn_due false e = cc

no_other : (b : Bool) (fault : StartFault) → (fault ≡ start.Worn → ⊥) → worn_or b ≡ Some fault → ⊥
no_other true fault apart e = apart (sym (some_same e))
no_other false fault apart e = cc

not_worn : (n : ℕ) → n ≤ last_number → (n == last_number) ≡ false → n < last_number
not_worn n most apart = below n most (λ e. true≢false (sym (eq-eqb n last_number e) ∙ apart))

no_state_worn : start.NoState ≡ start.Worn → ⊥
no_state_worn e = cc

bad_worn : (key : _) → start.BadState key ≡ start.Worn → ⊥
bad_worn key e = cc

walk_worn : (fault : _) → start.Walk fault ≡ start.Worn → ⊥
walk_worn fault e = cc

store_worn : (fault : StoreFault) → start.Store fault ≡ start.Worn → ⊥
store_worn fault e = cc

module _ {S : Type 0} (contents : S → Option Contents) (faults : S → ℕ) (store : StoreView S) (held : Contents) (s : State) (none : HasNoStray contents store)
    (there : contents store.shelf ≡ Some held) (sound : IsSound s) (stands : StandsFor held.status held.objects s) where
  objects_told : objects_of contents store ≡ Some held.objects
  objects_told = held_all contents store held none there

  status_told : status_of contents store ≡ Some held.status
  status_told = ap (option_map (λ (c : Contents). c.status)) there

  due : start_refusal held.objects held.status ≡ worn_or (s.state.opening == last_number)
  due = opens s held.status held.objects sound stands

  -- the text that was read is that of the state
  found_same : (found : LibState) → IsFound contents store found → found ≡ s.state
  found_same found is = ok_same (sym is.reads ∙ ap read_state (some_same (sym (is.told held.status status_told) ∙ stands.text)) ∙ stands.reads)

  -- ---- what a refused opening leaves

  module _ (left : StoreView S) (stays : objects_of contents left ≡ objects_of contents store) (adds : AddsNoStray contents store left) where
    lies : MappedAt (indexed left.index) (contents left.shelf) held.objects
    lies = mapped_at (indexed left.index) (contents left.shelf) held.objects (stays ∙ objects_told)

    same_objects : lies.value.objects ≡ held.objects
    same_objects = some_same (sym (held_all contents left lies.value (λ key stray. none key (adds key stray)) lies.is) ∙ stays ∙ objects_told)

    status_left : status_of contents left ≡ Some lies.value.status
    status_left = ap (option_map (λ (c : Contents). c.status)) lies.is

    as_it_was : status_of contents left ≡ status_of contents store → IsAsItWas contents held left
    as_it_was same = lies.is ∙ ap Some (λ i. record { objects = same_objects i; status = same_status i })
      where
        same_status : lies.value.status ≡ held.status
        same_status = some_same (sym status_left ∙ same ∙ status_told)

    is_raised : (found : LibState) → IsFound contents store found → found.opening ≢ last_number → IsWritten (next_opening found) (status_of contents store) (status_of contents left)
        → IsRaised contents held s left
    is_raised found is more written = record {
      now = lies.value;
      told = lies.is;
      objects = same_objects;
      sound = raised_sound;
      stands = stands_by_its_objects (raised s) lies.value.status lies.value.objects raised_sound text
          (subst (λ (st : LibState). read_state (text_of (next_opening st)) ≡ Ok (next_opening st)) (found_same found is)
          (written.reads (subst (λ (st : LibState). IsProper (next_opening st)) (sym (found_same found is)) (sound_is_proper (raised s) raised_sound))))
          (subst (λ (o : Objects). Keeps s.objects o) (sym same_objects) stands.lies);
    }
      where
        less : s.state.opening < last_number
        less = below s.state.opening sound.numbers.openings (λ last. more (ap (λ (st : LibState). st.opening) (found_same found is) ∙ last))

        raised_sound : IsSound (raised s)
        raised_sound = sound_opened s s.objects s.faults sound (record { kept = λ key bytes is. is }) less

        text : lies.value.status ≡ Some (text_of (raised s).state)
        text = some_same (sym status_left ∙ written.text ∙ ap (option_map (λ _. Some (text_of (next_opening found)))) status_told)
            ∙ ap (λ (st : LibState). Some (text_of (next_opening st))) (found_same found is)

    shelf_failed : LeftUnopened contents store left → IsAsItWas contents held left ⊎ IsRaised contents held s left
    shelf_failed (left_alone same) = inl (as_it_was same)
    shelf_failed (raised_text found is more written) = inr (is_raised found is more written)

    is_due : (fault : StartFault) → IsDueOr held.objects (start_refusal held.objects held.status) fault → IsDueOr held.objects (worn_or (s.state.opening == last_number)) fault
    is_due fault = subst (λ (o : Option StartFault). IsDueOr held.objects o fault) due

    opens_not : (fault : StartFault) → LeftUnopenedBy contents store left fault → IsDueOr held.objects (worn_or (s.state.opening == last_number)) fault → OpensNot contents held s left fault
    opens_not start.NoState by (inl e) = no_other (s.state.opening == last_number) start.NoState no_state_worn e
    opens_not start.NoState by (inr free) = free
    opens_not (start.BadState key) by (inl e) = no_other (s.state.opening == last_number) (start.BadState key) (bad_worn key) e
    opens_not (start.BadState key) by (inr free) = free
    opens_not (start.Walk fault) by (inl e) = no_other (s.state.opening == last_number) (start.Walk fault) (walk_worn fault) e
    opens_not (start.Walk fault) by (inr free) = free
    opens_not start.Worn by (inl e) = (eqb-true s.state.opening last_number (worn_due (s.state.opening == last_number) e), as_it_was by)
    opens_not start.Worn by (inr free) = absurd free
    opens_not (start.Store fault) by (inl e) = absurd (no_other (s.state.opening == last_number) (start.Store fault) (store_worn fault) e)
    opens_not (start.Store Shelf) by (inr free) = shelf_failed by.0
    opens_not (start.Store NoMemory) by (inr free) = (free, as_it_was (by.1 refl))
    opens_not (start.Store (Damaged want got)) by (inr free) = (free, as_it_was (by.1 refl))
    opens_not (start.Store (Taken id)) by (inr free) = absurd free
    opens_not (start.Store (Wrong id)) by (inr free) = absurd free

  pub opens_again : (result : Result (DepotView S) (StoreView S × StartFault)) → IsOpening contents faults store result → OpensAgain contents faults held (faults store.shelf) s result
  opens_again (Ok depot) opening = (
    not_worn s.state.opening sound.numbers.openings (none_due (s.state.opening == last_number) (sym due ∙ opening.refused held.objects held.status objects_told status_told)),
    opening_told.state ∙ ap (λ (st : LibState). Some (opened held.objects (faults store.shelf) (library st (faults store.shelf) held.objects))) (found_same opening_told.found opening_told.is_found),
    opening.settled,
    opening.stands,
  )
    where
      opening_told : OpensTold contents faults store held.objects depot
      opening_told = opening.shown held.objects objects_told
  opens_again (Err refused) opening =
      opens_not refused.0 opening.stays opening.err_lying refused.1 opening.err
      (is_due refused.0 opening.stays opening.err_lying refused.1 (opening.refused held.objects held.status objects_told status_told))

-- ---- a making

pub unmade : {S : Type 0} (contents : S → Option Contents) (faults : S → ℕ) (store : StoreView S) (objects : Objects) (lib name user secret : List ℕ) (moment : ℕ) (left : StoreView S) (fault : MakeFault)
    (before held : Contents) → length name ≤ 255 → 1 ≤ length user → length user ≤ 255 → IsRefusedMaking contents store lib name user secret moment left fault
    → objects_of contents store ≡ Some objects → contents store.shelf ≡ Some before → contents left.shelf ≡ Some held
    → LeavesUnmade lib name user secret moment (faults store.shelf) objects before.status held fault
unmade contents faults store objects lib name user secret moment left fault before held name_fits some_user user_fits refused told there is = by fault refused.err
  where
    library_made : State
    library_made = created lib name user secret moment objects (faults store.shelf)

    same : {f : MakeFault} → status_of contents left ≡ status_of contents store → LeavesUnmade lib name user secret moment (faults store.shelf) objects before.status held f
    same slot = unwritten (some_same (sym (ap (option_map (λ (c : Contents). c.status)) is) ∙ slot ∙ ap (option_map (λ (c : Contents). c.status)) there))

    stands : objects_of contents left ≡ Some library_made.objects → IsWritten library_made.state (status_of contents store) (status_of contents left)
        → commit_at library_made.objects (opening_commit lib user moment).id ≡ Ok (opening_commit lib user moment) → IsSound library_made × StandsFor held.status held.objects library_made
    stands lie written found =
        let sound : IsSound library_made = sound_created lib name user secret moment objects (faults store.shelf) found name_fits some_user user_fits in (
          sound,
          stands_by_its_objects library_made held.status held.objects sound
              (some_same (sym (ap (option_map (λ (c : Contents). c.status)) is) ∙ written.text ∙ ap (option_map (λ _. Some (text_of library_made.state))) (ap (option_map (λ (c : Contents). c.status)) there)))
              (written.reads (sound_is_proper library_made sound))
              (subst (λ (o : Objects). Keeps o held.objects) (some_same (sym (ap (option_map (indexed left.index)) is) ∙ lie)) (indexed_lies left.index held)),
        )

    failed : LeftUnmade contents store (opening_commit lib user moment) (first_state lib name user secret (opening_commit lib user moment).id moment) left
        → LeavesUnmade lib name user secret moment (faults store.shelf) objects before.status held (make.Store Shelf)
    failed (untouched lie slot) = same slot
    failed (stored lie slot) = same slot
    failed (begun lie written found) =
        let there : objects_of contents left ≡ Some library_made.objects = lie ∙ ap (option_map (λ (o : Objects). put_new o (opening_object (opening_commit lib user moment)))) told in
        was_begun refl (stands there written (found library_made.objects there))

    by : (f : MakeFault) → LeftUnmadeBy contents store (opening_commit lib user moment) (first_state lib name user secret (opening_commit lib user moment).id moment) left f
        → LeavesUnmade lib name user secret moment (faults store.shelf) objects before.status held f
    by make.HasState e = same e.1
    by (make.Store Shelf) e = failed e.0
    by (make.Store NoMemory) e = same (e.1 refl)
    by (make.Store (Taken id)) e = same (e.1 refl)
    by (make.Store (Wrong id)) e = same (e.1 refl)
    by (make.Store (Damaged want got)) e = same (e.1 refl)

-- What the slot holds after a write of the state text, and what is stored after a put. The key lemmas are writes_noted, noted_index,
-- holds_after, holds_next and stored_as_put.
use Rattle.std.proofs.Common.{◌≡◌, inl, inr, ℕ, Bool, true, false, if◌then◌else◌, List, refl, sym, ap, ◌∙◌, subst, true≢false, Option, None, Some, is_some, option_map, Result, Ok, Err}
use Rattle.std.specs.Prelude.{◌⊎◌, ⊤}
use Rattle.std.specs.FinMap as map
use Rattle.std.specs.Cmp.Lexicographic.{same_text}
use Rattle.ids.specs.Key.{Objects}
use Rattle.ids.specs.declared.key.Key.{Key}
use Rattle.ids.proofs.KeyOrderLemmas.{key_cmp_total, key_cmp_exact}
use Rattle.ids.proofs.MapLemmas.{insert-same}
use Rattle.library_rules.specs.Changes.{put_new}
use Rattle.library_rules.specs.LibraryState.{IsSound}
use Rattle.library_rules.proofs.ProperTextLemmas.{sound_is_proper}
use Rattle.library_state.specs.StateSpelling.{text_of}
use Rattle.library_state.specs.declared.state.LibState.{LibState}
use Rattle.object_store.specs.Store.{has_other_name, name_refusal, put_refusal, same_bytes, first_refusal, stored_refusal}
use Rattle.object_store.specs.Shelf.{Contents, put_known}
use Rattle.object_store.specs.StoreView.{NoteChanges, StoreView, status_of, with_object}
use Rattle.object_store.specs.declared.error.StoreFault.{StoreFault}
use Rattle.object_store.specs.declared.error.StoreFault.TheVariants.{Taken, Wrong, Damaged, Shelf, NoMemory}
use Rattle.object_store.specs.declared.shelf.Slot.TheVariants.{Status}
use Rattle.depot.specs.DepotView.{library, Holds}
use Rattle.depot.specs.NextState.{Follows}
use Rattle.depot.specs.Writing.{IsWritten, ReadsBack, Slot, Writes, written, settled, LeftOpen, nothing, again, settles, open_present, open_next, RewritesSo, with_stored}

-- the text that was written is there
pub written_at : (state : LibState) (old new : Slot) (status : Option (List ℕ)) → new ≡ written state old → new ≡ Some status → status ≡ Some (text_of state)
written_at state None new status is at = cc
written_at state (Some held) new status is at = cc

-- a write of the status text leaves the index
pub noted_index : {S : Type 0} (contents : S → Option Contents) (old new : StoreView S) (text : List ℕ) (result : Result ⊤ StoreFault)
    → NoteChanges contents old new text result → new.index ≡ old.index
noted_index contents old new text (Ok done) made = made.index
noted_index contents old new text (Err Shelf) may = may.index
noted_index contents old new text (Err NoMemory) kept = kept.index
noted_index contents old new text (Err (Taken id)) none = absurd none
noted_index contents old new text (Err (Wrong id)) none = absurd none
noted_index contents old new text (Err (Damaged want got)) none = absurd none

-- a text that was put into the slot
pub writes_noted : {S : Type 0} (contents : S → Option Contents) (old new : StoreView S) (state : LibState) (text : List ℕ) (result : Result ⊤ StoreFault)
    → text ≡ text_of state → ReadsBack state → NoteChanges contents old new text result → Writes state (status_of contents old) (status_of contents new) result
writes_noted {S} contents old new state text result is reads changes = by result changes
  where
    put : contents new.shelf ≡ put_known (contents old.shelf) Status text → IsWritten state (status_of contents old) (status_of contents new)
    put done = record { text = ap (option_map (λ (held : Contents). held.status)) done ∙ known (contents old.shelf); reads = reads }
      where
        known : (o : Option Contents) → option_map (λ (held : Contents). held.status) (put_known o Status text) ≡ written state (option_map (λ (held : Contents). held.status) o)
        known None = refl
        known (Some held) = ap (λ t. Some (Some t)) is

    by : (r : Result ⊤ StoreFault) → NoteChanges contents old new text r → Writes state (status_of contents old) (status_of contents new) r
    by (Ok done) made = put made.shelf
    by (Err Shelf) may = made may.shelf
      where
        made : (contents new.shelf ≡ contents old.shelf) ⊎ (contents new.shelf ≡ put_known (contents old.shelf) Status text)
            → (status_of contents new ≡ status_of contents old) ⊎ IsWritten state (status_of contents old) (status_of contents new)
        made (inl kept) = inl (ap (option_map (λ (held : Contents). held.status)) kept)
        made (inr done) = inr (put done)
    by (Err NoMemory) keeps = ap (option_map (λ (held : Contents). held.status)) keeps.shelf
    by (Err (Taken id)) none = absurd none
    by (Err (Wrong id)) none = absurd none
    by (Err (Damaged want got)) none = absurd none

-- ---- what the slot holds then

-- the present text, in whichever state it is
settled_holds : (unsettled : Bool) (present : LibState) (objects : Objects) (old : Slot) (status : Option (List ℕ)) (given : Option (List ℕ)) → old ≡ Some given
    → Holds unsettled present objects given → settled unsettled present old ≡ Some status → status ≡ Some (text_of present)
settled_holds true present objects old status given was holds e = written_at present old (written present old) status refl e
settled_holds false present objects old status given was holds e =
    let same : status ≡ given = cc in
    same ∙ holds

holds_present : (b : Bool) (present : LibState) (objects : Objects) (status : Option (List ℕ)) → status ≡ Some (text_of present) → Holds b present objects status
holds_present true present objects status e = inl e
holds_present false present objects status e = e

slot_before : (b : Bool) (present next : LibState) (old new : Slot) (status : Option (List ℕ)) → IsWritten next (settled b present old) new → new ≡ Some status → status ≡ Some (text_of next)
slot_before b present next old new status is at = written_at next (settled b present old) new status is.text at

-- a slot that is told was told before a write
pub told_before : (state : LibState) (old new : Slot) (status : Option (List ℕ)) → new ≡ written state old → new ≡ Some status → is_some old ≡ true
told_before state None new status e at = cc
told_before state (Some held) new status e at = refl

settled_told : (b : Bool) (state : LibState) (old : Slot) → is_some (settled b state old) ≡ true → is_some old ≡ true
settled_told true state None e = absurd (true≢false (sym e))
settled_told true state (Some held) e = refl
settled_told false state old e = e

some_is : {A : Type 0} (o : Option A) (x : A) → o ≡ Some x → is_some o ≡ true
some_is None x e = cc
some_is (Some y) x e = refl

some_at : {A : Type 0} (o : Option A) → is_some o ≡ true → (x : A) × (o ≡ Some x)
some_at None e = absurd (true≢false (sym e))
some_at (Some x) e = (x, refl)

module _ (unsettled : Bool) (present next : LibState) (objects : Objects) (old : Slot)
    (held : (given : Option (List ℕ)) → old ≡ Some given → Holds unsettled present objects given)
    (follows : Follows present next) (sound : (faults : ℕ) → IsSound (library next faults objects)) where
  present_again : (new : Slot) (status : Option (List ℕ)) → new ≡ settled unsettled present old → new ≡ Some status → status ≡ Some (text_of present)
  present_again new status e at =
      let back : settled unsettled present old ≡ Some status = sym e ∙ at in
      let given = some_at old (settled_told unsettled present old (some_is (settled unsettled present old) status back)) in
      settled_holds unsettled present objects old status given.0 given.1 (held given.0 given.1) back

  holds_left : (still : Bool) (new : Slot) (status : Option (List ℕ)) → LeftOpen unsettled present next old still new → new ≡ Some status → Holds still present objects status
  holds_left still new status (nothing same e) at = subst (λ b. Holds b present objects status) (sym same) (held status (sym e ∙ at))
  holds_left still new status (again same is e) at = holds_present still present objects status (written_at present old new status e at)
  holds_left still new status (settles same e) at = holds_present still present objects status (present_again new status e at)
  holds_left still new status (open_present same e) at = holds_present still present objects status (present_again new status e at)
  holds_left still new status (open_next same e) at =
      subst (λ b. Holds b present objects status) (sym same)
      (inr (record {
        other = next;
        follows = follows;
        text = slot_before unsettled present next old new status e at;
        reads = e.reads (sound_is_proper (library next 0 objects) (sound 0));
        sound = sound;
      }))

  -- after a refusal the present text stands, or it is open which of the two
  pub holds_after : (still : Bool) (new : Slot) (status : Option (List ℕ)) (fault : StoreFault) → RewritesSo unsettled present next old still new (Err fault) → new ≡ Some status
      → Holds still present objects status
  holds_after still new status Shelf so at = holds_left still new status so at
  holds_after still new status NoMemory (inl (same, e)) at = holds_left still new status (nothing same e) at
  holds_after still new status NoMemory (inr (same, e)) at = holds_left still new status (settles same e) at
  holds_after still new status (Taken id) so at = absurd so
  holds_after still new status (Wrong id) so at = absurd so
  holds_after still new status (Damaged want got) so at = absurd so

-- after a success the next one stands
pub holds_next : (unsettled : Bool) (present next : LibState) (objects : Objects) (old new : Slot) (still : Bool) (status : Option (List ℕ))
    → RewritesSo unsettled present next old still new (Ok tt) → new ≡ Some status → Holds still next objects status
holds_next unsettled present next objects old new still status so at =
    holds_present still next objects status (slot_before unsettled present next old new status so.1 at)

-- ---- a put that isn't refused

neither : (first later : Option StoreFault) → first_refusal first later ≡ None → later ≡ None
neither None later e = e
neither (Some fault) later e = cc

negated : (a b : Bool) (x y : StoreFault) → (if a then Some x else if b then None else Some y) ≡ None → true ≡ b
negated true b x y e = cc
negated false true x y e = refl
negated false false x y e = cc

pub same_there : (key : Key) (bytes : List ℕ) (stored : List ℕ) → stored_refusal key bytes (Some stored) ≡ None → stored ≡ bytes
same_there key bytes stored e = same_text stored bytes (negated (has_other_name key stored) (same_bytes stored bytes) _ _ e)

pub put_is_new : (objects : Objects) (key : Key) (bytes : List ℕ) → put_refusal objects key bytes ≡ None → map.insert objects key bytes ≡ put_new objects (record { key = key; bytes = bytes })
put_is_new objects key bytes free = by (map.get objects key) refl
  where
    by : (o : Option (List ℕ)) → map.get objects key ≡ o → map.insert objects key bytes ≡ (if is_some (map.get objects key) then objects else map.insert objects key bytes)
    by None is = sym (ap (λ o. if is_some o then objects else map.insert objects key bytes) is)
    by (Some stored) is =
        let same = same_there key bytes stored (ap (stored_refusal key bytes) (sym is) ∙ neither (name_refusal key bytes) (stored_refusal key bytes (map.get objects key)) free) in
        insert-same key_cmp_total key_cmp_exact objects key bytes (is ∙ ap Some same)
        ∙ sym (ap (λ o. if is_some o then objects else map.insert objects key bytes) is)

-- what is put where nothing refuses it is stored, and what is stored stays
pub stored_as_put : (known : Option Objects) (key : Key) (bytes : List ℕ) → ((objects : Objects) → known ≡ Some objects → put_refusal objects key bytes ≡ None)
    → with_object known key bytes ≡ with_stored (record { key = key; bytes = bytes }) known
stored_as_put None key bytes free = refl
stored_as_put (Some objects) key bytes free = ap Some (put_is_new objects key bytes (free objects refl))

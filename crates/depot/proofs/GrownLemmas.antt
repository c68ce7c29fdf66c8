-- A depot stays good as objects come, and where a call writes nothing. The key lemmas are good_kept,
-- good_put and holds_grown.
use Rattle.std.proofs.Common.{◌≡◌, ◌⊎◌, inl, inr, ℕ, Bool, true, false, List, [], ◌∷◌, refl, sym, ap, ◌∙◌, subst, true≢false, Option, None, option_map}
use Rattle.ids.specs.Key.{Objects}
use Rattle.library_rules.specs.Changes.{put_new}
use Rattle.library_rules.specs.LibraryState.{IsSound}
use Rattle.library_rules.specs.declared.entry.Stored.{Stored}
use Rattle.library_rules.proofs.SoundLemmas.{sound_moved}
use Rattle.library_state.specs.declared.state.LibState.{LibState}
use Rattle.object_store.specs.Shelf.{Contents}
use Rattle.object_store.specs.StoreView.{Keeps, StoreView, objects_of, status_of}
use Rattle.depot.specs.DepotView.{at_rest, DepotView, depot_of, library, Holds, IsGood}
use Rattle.depot.specs.Writing.{with_stored}
use Rattle.depot.proofs.GoodLemmas.{none_fresh, sound_at, sound_told}
use Rattle.depot.proofs.ToldLemmas.{mapped_at}

-- a library with an object more is sound
pub sound_grown : (state : LibState) (count : ℕ) (objects : Objects) (x : Stored) → IsSound (library state count objects) → IsSound (library state count (put_new objects x))
sound_grown state count objects x sound =
    sound_moved (library state count objects) (x ∷ []) [] (λ key e. absurd (true≢false (sym e))) (λ key e. absurd (true≢false (sym e))) (inr refl) sound

pub holds_grown : (unsettled : Bool) (state : LibState) (objects : Objects) (x : Stored) (status : Option (List ℕ)) → Holds unsettled state objects status → Holds unsettled state (put_new objects x) status
holds_grown true state objects x status (inl is) = inl is
holds_grown true state objects x status (inr held) = inr (record {
  other = held.other;
  follows = held.follows;
  text = held.text;
  reads = held.reads;
  sound = λ count. sound_grown held.other count objects x (held.sound count);
})
holds_grown false state objects x status is = is

-- what a call that changes nothing keeps
pub kept_status : {S : Type 0} (contents : S → Option Contents) (old new : StoreView S) → Keeps contents old new → status_of contents new ≡ status_of contents old
kept_status contents old new keeps = ap (option_map (λ (held : Contents). held.status)) keeps.shelf

module _ {S : Type 0} (contents : S → Option Contents) (faults : S → ℕ) (old : DepotView S) (good : IsGood contents faults (at_rest old)) (store : StoreView S)
    (text_kept : status_of contents store ≡ status_of contents old.store) where
  -- the same objects, and the same text
  pub good_kept : objects_of contents store ≡ objects_of contents old.store → IsGood contents faults (depot_of store old.state old.unsettled None)
  good_kept kept = record {
    head = good.head;
    reads = good.reads;
    fresh = none_fresh contents faults store;
    sound = sound_told contents faults (depot_of store old.state old.unsettled None)
        (λ objects told. sound_at contents faults old good objects (faults store.shelf) (sym kept ∙ told));
    text = λ objects status told at. good.text objects status (sym kept ∙ told) (sym text_kept ∙ at);
  }

  -- an object more, and the same text
  good_grown : (x : Stored) → objects_of contents store ≡ with_stored x (objects_of contents old.store) → IsGood contents faults (depot_of store old.state old.unsettled None)
  good_grown x grown = record {
    head = good.head;
    reads = good.reads;
    fresh = none_fresh contents faults store;
    sound = sound_told contents faults (depot_of store old.state old.unsettled None) (λ objects told.
        let before = mapped_at (λ (o : Objects). put_new o x) (objects_of contents old.store) objects (sym grown ∙ told) in
        subst (λ o. IsSound (library old.state (faults store.shelf) o)) before.gives
        (sound_grown old.state (faults store.shelf) before.value x (sound_at contents faults old good before.value (faults store.shelf) before.is)));
    text = λ objects status told at.
        let before = mapped_at (λ (o : Objects). put_new o x) (objects_of contents old.store) objects (sym grown ∙ told) in
        subst (λ o. Holds old.unsettled old.state o status) before.gives
        (holds_grown old.unsettled old.state before.value x status (good.text before.value status before.is (sym text_kept ∙ at)));
  }

  pub good_put : (x : Stored) → (objects_of contents store ≡ objects_of contents old.store) ⊎ (objects_of contents store ≡ with_stored x (objects_of contents old.store))
      → IsGood contents faults (depot_of store old.state old.unsettled None)
  good_put x (inl kept) = good_kept kept
  good_put x (inr grown) = good_grown x grown

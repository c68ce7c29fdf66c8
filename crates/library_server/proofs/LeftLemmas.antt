-- What a shelf holds on which a library was not made, or from which none was opened. The key lemmas are left_unmade,
-- left_unopened and left_kept.
use Rattle.std.proofs.Common.{◌≡◌, ℕ, inl, inr, Bool, true, false, List, Option, Some, option_map, refl, sym, ap, subst, ◌∙◌}
use Rattle.std.specs.Prelude.{◌⊎◌}
use Rattle.depot.specs.Make.{LeftUnmade, LeftUnmadeBy, begun, stored, untouched}
use Rattle.depot.specs.Start.{LeftUnopened, LeftUnopenedBy, next_opening, raised, untouched as unraised}
use Rattle.depot.specs.Writing.{with_stored, written}
use Rattle.depot.specs.declared.error.MakeFault.{MakeFault}
use Rattle.depot.specs.declared.error.MakeFault.TheVariants as make
use Rattle.depot.specs.declared.error.StartFault.{StartFault}
use Rattle.depot.specs.declared.error.StartFault.TheVariants as start
use Rattle.ids.specs.Key.{Objects}
use Rattle.library_rules.specs.Changes.{put_new}
use Rattle.library_rules.specs.Creation.{opening_commit, opening_object}
use Rattle.commit_objects.specs.declared.commit.Commit.{Commit}
use Rattle.library_state.specs.StateSpelling.{text_of}
use Rattle.library_state.specs.declared.state.LibState.{LibState}
use Rattle.object_graph.specs.Unchanged.{Keeps}
use Rattle.object_store.specs.Shelf.{Contents}
use Rattle.object_store.specs.StoreView.{HasNoStray, StoreView, indexed, objects_of, status_of}
use Rattle.object_store.specs.Store.{is_of_shelf}
use Rattle.object_store.specs.declared.error.StoreFault.{StoreFault}
use Rattle.library_server.specs.Starting.{LeavesOpened, LeavesShelf, LeftUnstarted}
use Rattle.library_server.specs.Making.{LeavesText, first_of, new_commit}
use Rattle.library_server.specs.declared.making.NewLibrary.{NewLibrary}
use Rattle.library_server.specs.declared.not_done.NotStarted.{NotStarted}
use Rattle.library_server.specs.declared.not_done.NotStarted.TheVariants as unstarted
use Rattle.library_server.proofs.DepotLemmas.{mapped_from}
use Rattle.depot.proofs.StandingLemmas.{held_all, indexed_lies}
use Rattle.ids.proofs.BasicLemmas.{same_from_some}

module _ {S : Type 0} (contents : S → Option Contents) where
  -- the slot of a shelf that tells it
  slot_told : (store : StoreView S) (status : Option (List ℕ)) → status_of contents store ≡ Some status
      → (h : Contents) × (contents store.shelf ≡ Some h) × (h.status ≡ status)
  slot_told store status at =
      let shelf = mapped_from (λ (c : Contents). c.status) (contents store.shelf) status at in
      (shelf.0, shelf.1, same_from_some shelf.0.status status (sym (ap (option_map (λ (c : Contents). c.status)) shelf.1) ∙ at))

  unmade_slot : (given store : StoreView S) (commit : Commit) (first : LibState) (held : Contents) → LeftUnmade contents given commit first store
      → status_of contents given ≡ Some held.status → objects_of contents given ≡ Some held.objects
      → (status_of contents store ≡ Some held.status) ⊎ ((status_of contents store ≡ Some (Some (text_of first))) × (objects_of contents store ≡ Some (put_new held.objects (opening_object commit))))
  unmade_slot given store commit first held (untouched objects status) at all = inl (status ∙ at)
  unmade_slot given store commit first held (stored objects status) at all = inl (status ∙ at)
  unmade_slot given store commit first held (begun objects status found) at all = inr (status.text ∙ ap (written first) at, objects ∙ ap (with_stored (opening_object commit)) all)

  -- what a store holds lies on its shelf
  all_lie : (store : StoreView S) (objects : Objects) (h : Contents) → contents store.shelf ≡ Some h → objects_of contents store ≡ Some objects → Keeps objects h.objects
  all_lie store objects h told at =
      subst (λ objs. Keeps objs h.objects)
      (same_from_some (indexed store.index h) objects (sym (ap (option_map (indexed store.index)) told) ∙ at)) (indexed_lies store.index h)

  kept_slot : (new : NewLibrary) (moment : ℕ) (why : MakeFault) (store : StoreView S) (held : Contents) → status_of contents store ≡ Some held.status
      → LeavesText new moment why held (contents store.shelf)
  kept_slot new moment why store held at = let slot = slot_told store held.status at in (slot.0, slot.1, inl slot.2)

  -- only a counted failure may leave the text
  left_store : (new : NewLibrary) (moment : ℕ) (fault : StoreFault) (counted : Bool) → is_of_shelf fault ≡ counted → (store : StoreView S) (held : Contents)
      → (status_of contents store ≡ Some held.status) ⊎ ((status_of contents store ≡ Some (Some (text_of (first_of new moment)))) × (objects_of contents store ≡ Some (put_new held.objects (new_commit new moment))))
      → (counted ≡ false → status_of contents store ≡ Some held.status) → LeavesText new moment (make.Store fault) held (contents store.shelf)
  left_store new moment fault true is store held (inl at) kept = kept_slot new moment (make.Store fault) store held at
  left_store new moment fault true is store held (inr at) kept =
      let slot = slot_told store (Some (text_of (first_of new moment))) at.0 in
      (slot.0, slot.1, inr (is, slot.2, all_lie store (put_new held.objects (new_commit new moment)) slot.0 slot.1 at.1))
  left_store new moment fault false is store held slot kept = kept_slot new moment (make.Store fault) store held (kept refl)

  pub left_unmade : (new : NewLibrary) (moment : ℕ) (given store : StoreView S) (held : Contents) (why : MakeFault)
      → LeftUnmadeBy contents given (opening_commit new.lib new.user moment) (first_of new moment) store why → status_of contents given ≡ Some held.status
      → objects_of contents given ≡ Some held.objects → LeavesText new moment why held (contents store.shelf)
  left_unmade new moment given store held make.HasState left at all = kept_slot new moment make.HasState store held (left.1 ∙ at)
  left_unmade new moment given store held (make.Store fault) left at all =
      left_store new moment fault (is_of_shelf fault) refl store held (unmade_slot given store (opening_commit new.lib new.user moment) (first_of new moment) held left.0 at all) (λ e. left.1 e ∙ at)

  -- where nothing lies beside, the shelf holds just what the store holds
  lies : (store : StoreView S) (objects : Objects) (h : Contents) → HasNoStray contents store → contents store.shelf ≡ Some h → objects_of contents store ≡ Some objects
      → h.objects ≡ objects
  lies store objects h none told at = same_from_some h.objects objects (sym (held_all contents store h none told) ∙ at)

  unraised_slot : (given store : StoreView S) (held : Contents) (why : StartFault) → HasNoStray contents store → status_of contents store ≡ status_of contents given
      → status_of contents given ≡ Some held.status → objects_of contents store ≡ Some held.objects → LeavesOpened why held (contents store.shelf)
  unraised_slot given store held why none status at objects =
      let slot = slot_told store held.status (status ∙ at) in
      (slot.0, slot.1, lies store held.objects slot.0 none slot.1 objects, inl slot.2)

  -- only a counted failure may leave the next text
  raised_slot : (given store : StoreView S) (held : Contents) (fault : StoreFault) (counted : Bool) → HasNoStray contents store → is_of_shelf fault ≡ counted → LeftUnopened contents given store
      → (counted ≡ false → status_of contents store ≡ status_of contents given) → status_of contents given ≡ Some held.status
      → objects_of contents store ≡ Some held.objects → LeavesOpened (start.Store fault) held (contents store.shelf)
  raised_slot given store held fault false none is_counted left kept at objects = unraised_slot given store held (start.Store fault) none (kept refl) at objects
  raised_slot given store held fault true none is_counted (unraised status) kept at objects = unraised_slot given store held (start.Store fault) none status at objects
  raised_slot given store held fault true none is_counted (raised found is more status) kept at objects =
      let slot = slot_told store (Some (text_of (next_opening found))) (status.text ∙ ap (written (next_opening found)) at) in (
        slot.0,
        slot.1,
        lies store held.objects slot.0 none slot.1 objects,
        inr (is_counted, is.text, found, is.told held.status at, is.reads, slot.2),
      )

  pub left_unopened : (given store : StoreView S) (held : Contents) (why : StartFault) → HasNoStray contents store → LeftUnopenedBy contents given store why
      → status_of contents given ≡ Some held.status → objects_of contents store ≡ Some held.objects → LeavesOpened why held (contents store.shelf)
  left_unopened given store held (start.Store fault) none left at objects = raised_slot given store held fault (is_of_shelf fault) none refl left.0 left.1 at objects
  left_unopened given store held start.NoState none left at objects = unraised_slot given store held start.NoState none left at objects
  left_unopened given store held (start.BadState key) none left at objects = unraised_slot given store held (start.BadState key) none left at objects
  left_unopened given store held start.Worn none left at objects = unraised_slot given store held start.Worn none left at objects
  left_unopened given store held (start.Walk fault) none left at objects = unraised_slot given store held (start.Walk fault) none left at objects

-- a shelf that was left so stands there with what it then held
pub left_kept : (why : NotStarted) (held : Contents) (now : Option Contents) → LeavesShelf why held now → (h : Contents) × (now ≡ Some h) × LeavesShelf why held (Some h)
left_kept (unstarted.Fault why) held now left = (left.0, left.1, (left.0, refl, left.2, left.3))
left_kept unstarted.Other held now left = (held, left, refl)

-- a shelf from which nothing but its text was read holds what it held
pub left_checked : (why : NotStarted) (held : Contents) (now : Option Contents) → now ≡ Some held → LeavesShelf why held now
left_checked (unstarted.Fault why) held now same = (held, same, refl, inl refl)
left_checked unstarted.Other held now same = same

pub left_unstarted : {S : Type 0} (contents : S → Option Contents) (given store : StoreView S) (held : Contents) (why : NotStarted) → HasNoStray contents store → LeftUnstarted contents given store why
    → status_of contents given ≡ Some held.status → objects_of contents store ≡ Some held.objects → LeavesShelf why held (contents store.shelf)
left_unstarted contents given store held (unstarted.Fault why) none left at objects = left_unopened contents given store held why none left at objects
left_unstarted contents given store held unstarted.Other none left at objects = absurd left

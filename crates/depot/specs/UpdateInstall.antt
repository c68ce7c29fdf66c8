-- How an update is carried out: its objects first, the state text last. Our own. Read StoresSo and PutsSo, then CarriesSo.
use Rattle.std.specs.Prelude.{◌≡◌, ◌++◌, ℕ, Bool, false, List, [], ◌∷◌, Option, None, Some, option_map, Result, Ok, Err, IfErr, IfOk, IsTrue, ⊤}
use Rattle.ids.specs.Key.{Objects}
use Rattle.library_rules.specs.Changes.{keys_added, put_new, with_added}
use Rattle.library_rules.specs.declared.entry.Stored.{Stored}
use Rattle.library_state.specs.declared.state.LibState.{LibState}
use Rattle.object_store.specs.Shelf.{Contents}
use Rattle.object_store.specs.Store.{CountsShelf, is_free, is_of_shelf, put_refusal}
use Rattle.object_store.specs.StoreView.{Index, StoreView, StraysBy, objects_of, status_of}
use Rattle.object_store.specs.declared.error.StoreFault.{StoreFault}
use Rattle.object_store.specs.declared.shelf.Slot.{Slot as ShelfSlot}
use Rattle.depot.specs.Answering.{MayRefuseUpdate}
use Rattle.depot.specs.Held.{HoldsMore, KnowsAll}
use Rattle.depot.specs.Giving.{GivesBy, IsNamedObject}
use Rattle.depot.specs.Refusals.{store_refusal}
use Rattle.depot.specs.Writing.{IsWritten, LeftBy, Slot, settled}

-- objects that are put one after another, where the objects are told
abbrev pub with_all : List Stored → Option Objects → Option Objects
with_all added known = option_map (λ objects. with_added objects added) known

-- a list begins with these
abbrev pub IsFront : List Stored → List Stored → Type 0
IsFront part all = (rest : List Stored) × (all ≡ part ++ rest)

-- the first ones of these were put
pub record StoresPart (old : Option Objects) (all : List Stored) (new : Option Objects) : Type 0 where
  pub part : List Stored
  pub front : IsFront part all
  pub objects : new ≡ with_all part old

-- all objects are put in their order, or the first ones up to a failure
abbrev pub StoresSo : Option Objects → List Stored → Option Objects → Result ⊤ StoreFault → Type 0
StoresSo old all new (Ok done) = new ≡ with_all all old
StoresSo old all new (Err fault) = StoresPart old all new

-- each object can be put, once those before it are stored
abbrev pub ArePuttable : Objects → List Stored → Type 0
ArePuttable objects [] = ⊤
ArePuttable objects (x ∷ others) = (put_refusal objects x.key x.bytes ≡ None) × ArePuttable (put_new objects x) others

abbrev pub ArePuttableIn : Option Objects → List Stored → Type 0
ArePuttableIn known added = (objects : Objects) → known ≡ Some objects → ArePuttable objects added

-- over any shelf an update may be refused by such a fault, whatever the index knows
abbrev pub IsWriteFault : (ShelfSlot → Option (List ℕ) → Type 0) → StoreFault → Type 0
IsWriteFault may_give fault = (index : Index) → MayRefuseUpdate index may_give (store_refusal fault)

-- objects that nothing forbids are put: all of them in their order, or the first ones up to a fault that may come in any
-- place. Nothing else is changed
pub record PutsSo {S : Type 0} (contents : S → Option Contents) (may_give : S → ShelfSlot → Option (List ℕ) → Type 0) (texts faults : S → ℕ) (all : List Stored)
    (old new : StoreView S) (result : Result ⊤ StoreFault) : Type 0 where
  pub objects : StoresSo (objects_of contents old) all (objects_of contents new) result
  pub slot : status_of contents new ≡ status_of contents old
  pub free : (known : Objects) → objects_of contents old ≡ Some known → IfErr result (λ fault. IsTrue (is_free fault))
  pub cause : IfErr result (IsWriteFault (may_give new.shelf))
  pub lying : StraysBy is_of_shelf contents old new result
  pub written : texts new.shelf ≡ texts old.shelf
  pub gives : GivesBy IsNamedObject (may_give old.shelf) (may_give new.shelf)
  pub count : CountsShelf (faults old.shelf) (faults new.shelf) result
  -- the index knows some of their keys more, and all of them where all were put
  pub held : HoldsMore (keys_added all) old.index new.index
  pub known : IfOk result (λ done. KnowsAll (keys_added all) new.index)

-- the objects and the slot, where they are told, and the count of texts that were put
pub record Held : Type 0 where
  pub objects : Option Objects
  pub slot : Slot
  pub texts : ℕ

-- the first ones of the objects were put, and nothing was written; or all of them, and then the text was written as far as
-- a failure of the shelf or want of memory let it
pub data LeftBehind (fault : StoreFault) (unsettled : Bool) (present next : LibState) (all : List Stored) (old : Held) (still : Bool) (new : Held) : Type 0 where
  stopped : StoresPart old.objects all new.objects → still ≡ unsettled → new.slot ≡ old.slot → new.texts ≡ old.texts → LeftBehind fault unsettled present next all old still new
  unsure : IsTrue (is_free fault) → new.objects ≡ with_all all old.objects → LeftBy fault unsettled present next old.slot still new.slot
      → LeftBehind fault unsettled present next all old still new

-- all objects are put, and then the next state's text stands
pub record IsCarriedOut (unsettled : Bool) (present next : LibState) (all : List Stored) (old : Held) (still : Bool) (new : Held) : Type 0 where
  pub objects : new.objects ≡ with_all all old.objects
  pub settles : still ≡ false
  pub text : IsWritten next (settled unsettled present old.slot) new.slot

abbrev pub CarriesSo : Bool → LibState → LibState → List Stored → Held → Bool → Held → Result ⊤ StoreFault → Type 0
CarriesSo unsettled present next all old still new (Ok done) = IsCarriedOut unsettled present next all old still new
CarriesSo unsettled present next all old still new (Err fault) = LeftBehind fault unsettled present next all old still new

-- what a store holds
abbrev pub held_in : {S : Type 0} → (S → Option Contents) → (S → ℕ) → StoreView S → Held
held_in contents texts store = record { objects = objects_of contents store; slot = status_of contents store; texts = texts store.shelf }

-- Calls on a store, one after another. The key lemmas are reads_then, reads_err, told_after and read_ok.
use Rattle.std.proofs.Common.{◌≡◌, ◌≤◌, ◌↔◌, ◌⊎◌, inl, inr, [], length, drop, drop_of_length-le, ℕ, Bool, true, false, IsTrue, List, refl, sym, ap, ◌∙◌, subst, Option, Some, Result, Ok, Err}
use Rattle.std.specs.Prelude.{⊤}
use Rattle.std.specs.Cmp.Lexicographic.{bytes_decides}
use Rattle.ids.specs.FaultCount.{FailsBy}
use Rattle.ids.specs.Key.{Objects}
use Rattle.ids.specs.ObjectId.{nil}
use Rattle.ids.specs.declared.key.Key.{Key}
use Rattle.std.specs.FinMap as map
use Rattle.object_store.proofs.ShelfLemmas as on_shelf
use Rattle.object_store.specs.Store.{IsGetFault, IsOfStored, damage_at, is_free}
use Rattle.object_store.specs.declared.error.StoreFault.{StoreFault}
use Rattle.object_store.specs.declared.error.StoreFault.TheVariants as store
use Rattle.object_store.specs.Shelf.{Contents}
use Rattle.object_store.specs.StoreView.{Index, StoreView, Keeps, objects_of}
use Rattle.object_store.specs.declared.shelf.Slot.{Slot}
use Rattle.object_graph.specs.Objects.{is_nil}
use Rattle.object_graph.specs.declared.fault.TreeFault.{TreeFault}
use Rattle.tree_walk.specs.Reading.{AnswersRead, IsDamageAt, IsDamageOf, IsReadFault, IsStoreDue, Reads, is_counted}
use Rattle.tree_walk.specs.declared.fault.WalkFault.{WalkFault}
use Rattle.tree_walk.specs.declared.fault.WalkFault.TheVariants as walk

-- what was read
pub read_ok : {T : Type 0} (objects : Objects) (due : Result T TreeFault) (value : T) → AnswersRead objects due (Ok value) → due ≡ Ok value
read_ok objects (Ok read) value is = ap Ok (sym is)
read_ok objects (Err fault) value is = absurd is

-- an id that isn't forty zeros, and one that is
pub other_id : (id : List ℕ) (b : Bool) → (IsTrue b ↔ (id ≡ nil)) → b ≡ false → is_nil id ≡ false
other_id id b same is = by (is_nil id) refl
  where
    impossible : false ≡ true → is_nil id ≡ false
    impossible e = cc

    by : (c : Bool) → is_nil id ≡ c → is_nil id ≡ false
    by true e = impossible (sym is ∙ same.1 ((bytes_decides id nil).0 e))
    by false e = e

pub keeps_then : {S : Type 0} {contents : S → Option Contents} {old mid new : StoreView S} → Keeps contents old mid → Keeps contents mid new → Keeps contents old new
keeps_then first second = record { index = second.index ∙ first.index; shelf = second.shelf ∙ first.shelf; objects = second.objects ∙ first.objects }

module _ {S : Type 0} {contents : S → Option Contents} {may_give : S → Slot → Option (List ℕ) → Type 0} {texts faults : S → ℕ} where
  -- a call after one that gave something
  pub reads_then : {T U : Type 0} {old mid new : StoreView S} (value : T) (result : Result U WalkFault)
      → Reads contents may_give texts faults old mid (Ok value) → Reads contents may_give texts faults mid new result → Reads contents may_give texts faults old new result
  reads_then {old = old} {mid = mid} {new = new} value result first second = record {
    kept = keeps_then first.kept second.kept;
    shelf = on_shelf.reads_then first.shelf second.shelf;
    cause = second.cause;
    count = subst (λ n. FailsBy is_counted n (faults new.shelf) result) first.count second.count;
  }

  -- what a call gave doesn't matter
  pub reads_done : {T : Type 0} {old new : StoreView S} (value : T) → Reads contents may_give texts faults old new (Ok value) → Reads {T = ⊤} contents may_give texts faults old new (Ok tt)
  reads_done value reads = record { kept = reads.kept; shelf = reads.shelf; cause = tt; count = reads.count }

  -- the same objects are told after it
  pub told_after : {T : Type 0} {old new : StoreView S} {result : Result T WalkFault} {objects : Objects} → Reads contents may_give texts faults old new result
      → objects_of contents old ≡ Some objects → objects_of contents new ≡ Some objects
  told_after reads told = reads.kept.objects ∙ told

  -- and were told before it
  pub told_before : {T : Type 0} {old new : StoreView S} {result : Result T WalkFault} {objects : Objects} → Reads contents may_give texts faults old new result
      → objects_of contents new ≡ Some objects → objects_of contents old ≡ Some objects
  told_before reads told = sym reads.kept.objects ∙ told

-- what is left behind the end of a list
pub nothing_left : {X : Type 0} (xs : List X) (n : ℕ) → length xs ≤ n → drop n xs ≡ []
nothing_left xs n past = drop_of_length-le xs past

-- ---- a fault of the store

-- it may come in the place of any answer
pub read_stops : {T : Type 0} (objects : Objects) (due : Result T TreeFault) (fault : StoreFault) → IsStoreDue objects fault → AnswersRead objects due (Err (walk.Store fault))
read_stops objects (Ok value) fault is = is
read_stops objects (Err due) fault is = is

-- what a get refuses, where the objects are told
pub store_due : (objects : Objects) (key : Key) (may_give : Slot → Option (List ℕ) → Type 0) (fault : StoreFault) → IsGetFault may_give key fault
    → (damage_at objects key ≡ Some fault) ⊎ IsTrue (is_free fault) → IsStoreDue objects fault
store_due objects key may_give (store.Taken id) cause refused = cause
store_due objects key may_give (store.Wrong id) cause refused = cause
store_due objects key may_give (store.Damaged want got) cause refused = elim refused [ inl is ↦ (key, is) | inr free ↦ cc ]
store_due objects key may_give store.Shelf cause refused = tt
store_due objects key may_give store.NoMemory cause refused = tt

-- and over any shelf, of a key of the index
pub store_cause : (index : Index) (key : Key) (may_give : Slot → Option (List ℕ) → Type 0) (fault : StoreFault) → IsOfStored (map.get index key) key fault
    → IsGetFault may_give key fault → IsReadFault index may_give fault
store_cause index key may_give (store.Taken id) there cause = cause
store_cause index key may_give (store.Wrong id) there cause = cause
store_cause index key may_give (store.Damaged want got) there cause = record { key = key; there = there; damage = cause }
store_cause index key may_give store.Shelf there cause = tt
store_cause index key may_give store.NoMemory there cause = tt

-- of the key that was asked for
pub store_of : (key : Key) (may_give : Slot → Option (List ℕ) → Type 0) (fault : StoreFault) → IsGetFault may_give key fault → IsDamageOf key.id fault
store_of key may_give (store.Taken id) cause = tt
store_of key may_give (store.Wrong id) cause = tt
store_of key may_give (store.Damaged want got) cause = cause.named
store_of key may_give store.Shelf cause = tt
store_of key may_give store.NoMemory cause = tt

-- and where the objects are told, of the very object
pub store_damage : (objects : Objects) (key : Key) (fault : StoreFault) → (damage_at objects key ≡ Some fault) ⊎ IsTrue (is_free fault) → IsDamageAt objects key (walk.Store fault)
store_damage objects key (store.Damaged want got) refused = elim refused [ inl is ↦ is | inr free ↦ cc ]
store_damage objects key other refused = tt

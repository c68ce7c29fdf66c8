-- What a sweep takes, and what it leaves. Our own. Read Took.
use Rattle.std.specs.Prelude.{◌≡◌, ◌≢◌, ◌⊎◌, ◌+◌, ◌&&◌, not, ℕ, Bool, true, if◌then◌else◌, is_some, List, [], ◌∷◌, ◌++◌, length, take, Option, None, Some, option_map, Result, Ok, Err, ⊤}
use Rattle.std.specs.Bool.{MatchBool}
use Rattle.std.specs.FinMap as map
use Rattle.std.specs.List.{IsDistinct}
use Rattle.std.specs.List.Sorted.{IsStrictlySortedBy}
use Rattle.std.specs.Ordering.{eq_by_cmp}
use Rattle.std.specs.declared.cmp.Ordering.TheVariants.{Less}
use Rattle.ids.specs.Key.{key_cmp}
use Rattle.ids.specs.declared.key.Key.{Key}
use Rattle.library_rules.specs.Changes.{without}
use Rattle.object_graph.specs.Traversal.{is_in}
use Rattle.object_store.specs.Shelf.{Contents}
use Rattle.object_store.specs.Store.{CountsShelf, is_of_shelf}
use Rattle.object_store.specs.StoreView.{AddsNoStray, IsStray, Keeps, StoreView, objects_of, without_object}
use Rattle.object_store.specs.declared.error.StoreFault.{StoreFault}
use Rattle.object_store.specs.declared.error.StoreFault.TheVariants.{Taken, Wrong, Damaged, Shelf, NoMemory}
use Rattle.object_store.specs.declared.shelf.Slot.{Slot}
use Rattle.object_store.specs.declared.shelf.Slot.TheVariants.{Object}
use Rattle.collector.specs.Marks.{Candidates}

-- whether a key is among candidates
abbrev pub is_listed : Candidates → Key → Bool
is_listed candidates key = is_some (map.get candidates key)

-- these candidates left the store, each once, and with them their objects; nothing else is changed
pub record Took {S : Type 0} (contents : S → Option Contents) (old new : StoreView S) (before after : Candidates) (removed : List Key)
    : Type 0 where
  pub each : (key : Key) → is_in removed key ≡ true → is_listed before key ≡ true
  pub once : IsDistinct (eq_by_cmp key_cmp) removed
  pub candidates : (key : Key) → is_listed after key ≡ (is_listed before key && not (is_in removed key))
  pub size : map.len after + length removed ≡ map.len before
  pub index : (key : Key) → map.get new.index key ≡ (if is_in removed key then None else map.get old.index key)
  pub held : map.len new.index + length removed ≡ map.len old.index
  pub objects : objects_of contents new ≡ option_map (λ objects. without objects removed) (objects_of contents old)

-- the keys that left stand in their order, and before each candidate that is left
pub record TookLeast (after : Candidates) (removed : List Key) : Type 0 where
  pub order : IsStrictlySortedBy key_cmp removed
  pub least : (key : Key) (other : Key) → is_in removed key ≡ true → is_listed after other ≡ true → key_cmp key other ≡ Less

-- a sweep that the shelf ended told a key at least
abbrev pub EndsAtFault : List Key → Option StoreFault → Type 0
EndsAtFault removed None = ⊤
EndsAtFault removed (Some fault) = is_of_shelf fault ≡ true → removed ≢ []

-- the shelf's count rose where the sweep ended with its failure, and stays else
abbrev pub CountsSwept : ℕ → ℕ → Option StoreFault → Type 0
CountsSwept before now None = now ≡ before
CountsSwept before now (Some fault) = CountsShelf {T = ⊤} before now (Err fault)

-- it is the last of these keys
pub record IsLast (keys : List Key) (key : Key) : Type 0 where
  pub front : List Key
  pub is : keys ≡ front ++ key ∷ []

-- nothing comes to lie beside the store's objects; or, if the shelf failed, nothing but under the last of the keys that left
abbrev pub StraysIf : {S : Type 0} → Bool → (S → Option Contents) → StoreView S → StoreView S → List Key → Type 0
StraysIf failed contents old new removed =
    MatchBool failed ((key : Key) → IsStray contents new key → IsStray contents old key ⊎ IsLast removed key) (AddsNoStray contents old new)

-- the same of what ended a sweep: the key at which the shelf failed is the last that left
abbrev pub StraysAtEnd : {S : Type 0} → (S → Option Contents) → StoreView S → StoreView S → List Key → Option StoreFault → Type 0
StraysAtEnd contents old new removed None = AddsNoStray contents old new
StraysAtEnd contents old new removed (Some fault) = StraysIf (is_of_shelf fault) contents old new removed

-- the shelf may give what it might give before, or that nothing lies under one of the keys that left
abbrev pub GivesOrNothing : (Slot → Option (List ℕ) → Type 0) → (Slot → Option (List ℕ) → Type 0) → List Key → Type 0
GivesOrNothing before now removed = (slot : Slot) (given : Option (List ℕ)) → now slot given
    → before slot given ⊎ ((key : Key) × (is_in removed key ≡ true) × (slot ≡ Object key) × (given ≡ None))

-- ---- for private clauses

abbrev pub EndsSo : List Key → Result ⊤ StoreFault → Type 0
EndsSo removed (Ok done) = ⊤
EndsSo removed (Err fault) = is_of_shelf fault ≡ true → removed ≢ []

-- one key left, and is told last
pub record TakesKey {S : Type 0} (contents : S → Option Contents) (old new : StoreView S) (before after : Candidates)
    (told_before told : List Key) (key : Key) : Type 0 where
  pub candidates : after ≡ map.remove before key
  pub removed : told ≡ told_before ++ key ∷ []
  pub index : new.index ≡ map.remove old.index key
  pub objects : objects_of contents new ≡ without_object (objects_of contents old) key

-- nothing left
pub record TakesNone {S : Type 0} (contents : S → Option Contents) (old new : StoreView S) (before after : Candidates)
    (told_before told : List Key) : Type 0 where
  pub candidates : after ≡ before
  pub removed : told ≡ told_before
  pub kept : Keeps contents old new

-- what is told where a candidate was refused, of which so many were told before
abbrev pub TellsRest : StoreFault → Candidates → Candidates → List Key → List Key → Key → ℕ → Type 0
TellsRest Shelf before after listed told key count = (after ≡ map.remove before key) × (told ≡ listed)
TellsRest NoMemory before after listed told key count = (after ≡ before) × (told ≡ take count listed)
TellsRest (Taken id) before after listed told key count = ⊤
TellsRest (Wrong id) before after listed told key count = ⊤
TellsRest (Damaged want got) before after listed told key count = ⊤

abbrev pub TookOne : {S : Type 0} → (S → Option Contents) → StoreView S → StoreView S → Candidates → Candidates → List Key → List Key → Key
    → Result ⊤ StoreFault → Type 0
TookOne contents old new before after told_before told key (Ok done) = TakesKey contents old new before after told_before told key
TookOne contents old new before after told_before told key (Err Shelf) = TakesKey contents old new before after told_before told key
TookOne contents old new before after told_before told key (Err NoMemory) = TakesNone contents old new before after told_before told
TookOne contents old new before after told_before told key (Err (Taken id)) = ⊥
TookOne contents old new before after told_before told key (Err (Wrong id)) = ⊥
TookOne contents old new before after told_before told key (Err (Damaged want got)) = ⊥

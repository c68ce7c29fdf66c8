-- For private clauses: what was found of one tree beside an older one. Read ComparedView, then Finds and Spares.
use Rattle.std.specs.Prelude.{◌≡◌, ◌⊎◌, ◌||◌, not, ℕ, Bool, true, filter, if◌then◌else◌, is_some, List, [], ◌∷◌, ◌++◌, Some, ⊤, refl}
use Rattle.std.specs.Coded.{Coded, code_by, coded×, coded_list, coded_ℕ}
use base.Stored.{coded_unit}
use Rattle.std.specs.FinMap as map
use Rattle.ids.specs.Key.{key_cmp}
use Rattle.ids.specs.contracts.key.Key as key_contracts
use Rattle.ids.specs.declared.key.Key.{Key}
use Rattle.fs_objects.specs.declared.dirent.Dirent.{Dirent}
use Rattle.object_graph.specs.Objects.{fs_key}
use Rattle.object_graph.specs.Reached.{entry_keys}
use Rattle.object_graph.specs.Traversal.{distinct_from, is_in}

-- the keys that were found, opened or not; those that the older tree's opened objects name, which are spared; and which
-- object of the older tree stands beside one of a key
pub record ComparedView : Type 0 where
  pub opened : List Key
  pub waiting : List Key
  pub spared : map.FinMap key_cmp ⊤
  pub beside : map.FinMap key_cmp (List ℕ)

-- it is stored as its fields
abbrev pub compared_code : Coded ComparedView
compared_code = code_by (List Key × (List Key × (map.FinMap key_cmp ⊤ × map.FinMap key_cmp (List ℕ))))
    (coded× (coded_list key_contracts.the_row.coded) (coded× (coded_list key_contracts.the_row.coded)
    (coded× (map.code key_contracts.the_row.coded coded_unit) (map.code key_contracts.the_row.coded (coded_list coded_ℕ)))))
    (λ c. (c.opened, (c.waiting, (c.spared, c.beside))))
    (λ parts. record { opened = parts.0; waiting = parts.1.0; spared = parts.1.1.0; beside = parts.1.1.1 }) (λ _. refl)

abbrev pub nothing_compared : ComparedView
nothing_compared = record { opened = []; waiting = []; spared = map.empty; beside = map.empty }

abbrev pub is_spared : ComparedView → Key → Bool
is_spared c key = is_some (map.get c.spared key)

abbrev pub is_found : ComparedView → Key → Bool
is_found c key = is_in (c.opened ++ c.waiting) key

-- a key that wasn't found waits, and a key is spared
abbrev pub with_found : ComparedView → Key → ComparedView
with_found c key = if is_found c key then c else record c { waiting = c.waiting ++ key ∷ [] }

abbrev pub with_spared : ComparedView → Key → ComparedView
with_spared c key = record c { spared = map.insert c.spared key tt }

-- the key that waits first is opened
pub record OpensFirst (old new : ComparedView) : Type 0 where
  pub key : Key
  pub rest : List Key
  pub first : old.waiting ≡ key ∷ rest
  pub is : new ≡ record old { opened = old.opened ++ key ∷ []; waiting = rest }

-- this key waits first
pub record IsFirst (key : Key) (c : ComparedView) : Type 0 where
  pub rest : List Key
  pub first : c.waiting ≡ key ∷ rest

-- these keys are spared too
pub record Spares (keys : List Key) (old new : ComparedView) : Type 0 where
  pub opened : new.opened ≡ old.opened
  pub waiting : new.waiting ≡ old.waiting
  pub spared : (key : Key) → is_spared new key ≡ (is_spared old key || is_in keys key)
  pub beside : new.beside ≡ old.beside

-- after an error: some of them
pub record SparesSome (keys : List Key) (old new : ComparedView) : Type 0 where
  pub front : List Key
  pub rest : List Key
  pub parts : keys ≡ front ++ rest
  pub spares : Spares front old new

-- those of the keys wait that aren't spared, and weren't found before
pub record Finds (keys : List Key) (old new : ComparedView) : Type 0 where
  pub opened : new.opened ≡ old.opened
  pub waiting : new.waiting ≡ old.waiting ++ distinct_from (old.opened ++ old.waiting) (filter (λ key. not (is_spared old key)) keys)
  pub spared : new.spared ≡ old.spared
  pub beside : new.beside ≡ old.beside

pub record FindsSome (keys : List Key) (old new : ComparedView) : Type 0 where
  pub front : List Key
  pub rest : List Key
  pub parts : keys ≡ front ++ rest
  pub finds : Finds front old new

-- the objects that entries name are among some keys
abbrev pub AreAmong : List Key → List Dirent → Type 0
AreAmong names entries = (key : Key) → is_in (entry_keys entries) key ≡ true → is_in names key ≡ true

-- an object may stand beside one more key
abbrev pub MayPlace : List ℕ → ComparedView → ComparedView → Type 0
MayPlace id old new = (new ≡ old) ⊎ ((key : Key) × (new ≡ record old { beside = map.insert old.beside key id }))

-- what stands beside keys more is named by these entries
pub record PlacesBeside (entries : List Dirent) (old new : ComparedView) : Type 0 where
  pub opened : new.opened ≡ old.opened
  pub waiting : new.waiting ≡ old.waiting
  pub spared : new.spared ≡ old.spared
  pub each : (key : Key) (id : List ℕ) → map.get new.beside key ≡ Some id
      → (map.get old.beside key ≡ Some id) ⊎ (is_in (entry_keys entries) (fs_key id) ≡ true)

-- names are found, and what stands beside some of them is named by these entries
pub record FindsNamed (names : List Key) (entries : List Dirent) (old new : ComparedView) : Type 0 where
  pub next : ComparedView
  pub places : PlacesBeside entries old next
  pub finds : Finds names next new

-- For private clauses: keys that are met one after another, and opened in the same order. Read WorklistView, then with_met.
use Rattle.std.specs.Prelude.{◌≡◌, ◌≤◌, ℕ, if◌then◌else◌, is_some, List, [], ◌∷◌, ◌++◌, length, Option, None, Some, ⊤, refl}
use Rattle.std.specs.Coded.{Coded, code_by, coded×, coded_list}
use Rattle.std.specs.FinMap as map
use Rattle.std.specs.List.{IsDistinct}
use Rattle.std.specs.Ordering.{eq_by_cmp}
use Rattle.ids.specs.Key.{key_cmp}
use Rattle.ids.specs.contracts.key.Key as key_contracts
use Rattle.ids.specs.declared.key.Key.{Key}
use Rattle.object_graph.specs.Traversal.{distinct_from, is_in}

-- the keys that were opened, and those that wait, in the order in which they were met
pub record WorklistView : Type 0 where
  pub opened : List Key
  pub waiting : List Key

-- it is stored as the pair of its fields
abbrev pub worklist_code : Coded WorklistView
worklist_code = code_by (List Key × List Key) (coded× (coded_list key_contracts.the_row.coded) (coded_list key_contracts.the_row.coded)) (λ work. (work.opened, work.waiting)) (λ pair. record { opened = pair.0; waiting = pair.1 }) (λ _. refl)

abbrev pub no_keys : WorklistView
no_keys = record { opened = []; waiting = [] }

-- all keys that were met
abbrev pub all_met : WorklistView → List Key
all_met work = work.opened ++ work.waiting

-- the table knows exactly the keys of the list, each of which stands once, and the place is within it
pub record IsWorklist (order : List Key) (met : map.FinMap key_cmp ⊤) (next : ℕ) : Type 0 where
  pub there : (key : Key) → is_some (map.get met key) ≡ is_in order key
  pub once : IsDistinct (eq_by_cmp key_cmp) order
  pub within : next ≤ length order

-- the key that waits first, if one waits
abbrev pub first_of : List Key → Option Key
first_of [] = None
first_of (key ∷ keys) = Some key

-- a key that wasn't met waits
abbrev pub with_met : WorklistView → Key → WorklistView
with_met work key = if is_in (all_met work) key then work else record work { waiting = work.waiting ++ key ∷ [] }

-- the first ones of these keys were met
pub record MeetsFront (keys : List Key) (old new : WorklistView) : Type 0 where
  pub front : List Key
  pub rest : List Key
  pub parts : keys ≡ front ++ rest
  pub opened : new.opened ≡ old.opened
  pub waiting : new.waiting ≡ old.waiting ++ distinct_from (all_met old) front

-- the key that waits first is opened
pub record Opens (old new : WorklistView) : Type 0 where
  pub key : Key
  pub rest : List Key
  pub first : old.waiting ≡ key ∷ rest
  pub opened : new.opened ≡ old.opened ++ key ∷ []
  pub waiting : new.waiting ≡ rest

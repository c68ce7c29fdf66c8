-- What a depot is: a store, the library that its state text tells, whether the last write of that text failed, and the
-- collection that runs. Our own. Read DepotView and state_of first, then IsGood and IsKept.
use Rattle.std.specs.Prelude.{◌≡◌, ◌≢◌, ◌⊎◌, ◌++◌, ℕ, Bool, true, false, List, [], Option, None, Some, is_some, length, option_map, Ok, ⊤, refl}
use Rattle.std.specs.Coded.{Coded, code_by, coded×, coded_bool, coded_option, coded_ℕ}
use Rattle.std.specs.FinMap as map
use Rattle.std.specs.FinSet as set
use Rattle.ids.specs.Key.{Objects, key_cmp}
use Rattle.ids.specs.contracts.key.Key as key_contracts
use Rattle.ids.specs.declared.key.Key.{Key}
use Rattle.library_rules.specs.LibraryState.{Running, State, IsSound, is_fresh}
use Rattle.library_state.specs.StateSpelling.{text_of}
use Rattle.library_state.specs.StateText.{state_of as read_state}
use Rattle.library_state.specs.contracts.state.LibState as state_contracts
use Rattle.library_state.specs.declared.state.LibState.{LibState}
use Rattle.object_store.specs.Shelf.{Contents}
use Rattle.object_store.specs.StoreView.{Index, StoreView, store_code, objects_of, status_of}
use Rattle.collector.specs.Collecting.{Collects}
use Rattle.collector.specs.Marks.{MarksView, is_candidate, marks_code}
use Rattle.collector.specs.StoredCandidates.{AreStoredIn}
use Rattle.tree_walk.specs.KnownTrees.{Fits, KnownView, KeepsFor, nothing_known}
use Rattle.depot.specs.NextState.{Follows}
use Rattle.depot.specs.Writing.{ReadsBack}

-- a depot as contracts see it. It is unsettled after a write of the state text that failed: then the slot may hold the
-- text of a state that some call makes of this one. So many objects are marked by the collection that runs; where none
-- runs, none
pub record DepotView (S : Type 0) : Type 0 where
  pub store : StoreView S
  pub state : LibState
  pub unsettled : Bool
  pub running : Option Running
  pub marked : ℕ

-- a collection that runs is stored as its fields
abbrev pub running_code : Coded Running
running_code = code_by (set.FinSet key_cmp × (ℕ × ℕ)) (coded× (set.code key_contracts.the_row.coded) (coded× coded_ℕ coded_ℕ))
    (λ running. (running.fresh, (running.stored, running.turned))) (λ parts. record { fresh = parts.0; stored = parts.1.0; turned = parts.1.1 }) (λ _. refl)

-- a depot is stored as its fields
abbrev pub depot_code : {S : Type 0} → Coded S → Coded (DepotView S)
depot_code {S} shelf = code_by (StoreView S × (LibState × (Bool × (Option Running × ℕ))))
    (coded× (store_code shelf) (coded× state_contracts.the_row.coded (coded× coded_bool (coded× (coded_option running_code) coded_ℕ))))
    (λ depot. (depot.store, (depot.state, (depot.unsettled, (depot.running, depot.marked)))))
    (λ parts. record { store = parts.0; state = parts.1.0; unsettled = parts.1.1.0; running = parts.1.1.1.0; marked = parts.1.1.1.1 }) (λ _. refl)

-- the library of a state text, with these objects, no collection running, and this count of faults
abbrev pub library : LibState → ℕ → Objects → State
library state faults objects = record { objects = objects; state = state; running = None; faults = faults }

-- the same, with the collection that runs
abbrev pub running_library : LibState → Option Running → ℕ → Objects → State
running_library state running faults objects = record (library state faults objects) { running = running }

-- the library that a store and a state text are, where the shelf tells its contents
abbrev pub library_of : {S : Type 0} → (S → Option Contents) → (S → ℕ) → StoreView S → LibState → Option State
library_of contents faults store state = option_map (library state (faults store.shelf)) (objects_of contents store)

-- the library of a state text is sound over what a store holds
abbrev pub IsSoundIn : {S : Type 0} → (S → Option Contents) → StoreView S → LibState → Type 0
IsSoundIn contents store state = (objects : Objects) (count : ℕ) → objects_of contents store ≡ Some objects → IsSound (library state count objects)

-- the library that a depot is
abbrev pub state_of : {S : Type 0} → (S → Option Contents) → (S → ℕ) → DepotView S → Option State
state_of contents faults depot = option_map (running_library depot.state depot.running (faults depot.store.shelf)) (objects_of contents depot.store)

-- a depot in which no collection runs
abbrev pub at_rest : {S : Type 0} → DepotView S → DepotView S
at_rest depot = record depot { running = None; marked = 0 }

-- ---- what the slot holds

-- the text of another state, which some call, or a token more, makes of the present one: it is read as that state, and
-- the library is sound over the same objects
pub record HoldsOther (present : LibState) (objects : Objects) (status : Option (List ℕ)) : Type 0 where
  pub other : LibState
  pub follows : Follows present other
  pub text : status ≡ Some (text_of other)
  pub reads : read_state (text_of other) ≡ Ok other
  pub sound : (faults : ℕ) → IsSound (library other faults objects)

-- the slot holds the state's text; while the depot is unsettled it may hold that of such another state
abbrev pub Holds : Bool → LibState → Objects → Option (List ℕ) → Type 0
Holds false state objects status = status ≡ Some (text_of state)
Holds true state objects status = (status ≡ Some (text_of state)) ⊎ HoldsOther state objects status

-- a depot always has a head, its text is read as its state, and fresh keys are known; where its shelf tells its contents,
-- the library is sound and the slot holds its text
pub record IsGood {S : Type 0} (contents : S → Option Contents) (faults : S → ℕ) (depot : DepotView S) : Type 0 where
  pub head : depot.state.kept ≢ []
  pub reads : ReadsBack depot.state
  pub fresh : (key : Key) → is_fresh depot.running key ≡ true → is_some (map.get depot.store.index key) ≡ true
  pub sound : (s : State) → state_of contents faults depot ≡ Some s → IsSound s
  pub text : (objects : Objects) (status : Option (List ℕ)) → objects_of contents depot.store ≡ Some objects
      → status_of contents depot.store ≡ Some status → Holds depot.unsettled depot.state objects status

-- ---- what a depot knows of its trees, beside what contracts see

-- what is known of stored trees is so over what a store holds, where that is told
abbrev pub FitsIn : {S : Type 0} → (S → Option Contents) → StoreView S → KnownView → Type 0
FitsIn contents store known = (objects : Objects) → objects_of contents store ≡ Some objects → Fits objects known

-- a collection that runs: its marks, and what it is for the library
pub record CollectionView : Type 0 where
  pub marks : MarksView
  pub running : Running

-- the keys of a table, as a set
abbrev pub fresh_in : map.FinMap key_cmp ⊤ → set.FinSet key_cmp
fresh_in table = set.from_list (map.keys table)

-- it is stored as the pair of its fields
abbrev pub collection_code : Coded CollectionView
collection_code = code_by (MarksView × Running) (coded× marks_code running_code) (λ collection. (collection.marks, collection.running))
    (λ pair. record { marks = pair.0; running = pair.1 }) (λ _. refl)

abbrev pub running_of : Option CollectionView → Option Running
running_of collection = option_map (λ c. c.running) collection

-- how many objects are marked
abbrev pub marked_of : Option CollectionView → ℕ
marked_of None = 0
marked_of (Some collection) = length collection.marks.marked

-- the depot of a store, with this state, and the collection that runs
abbrev pub depot_of : {S : Type 0} → StoreView S → LibState → Bool → Option CollectionView → DepotView S
depot_of store state unsettled collection = record { store = store; state = state; unsettled = unsettled; running = running_of collection; marked = marked_of collection }

-- the marks are those of the collection that runs in the library
abbrev pub CollectsIn : State → Option CollectionView → Type 0
CollectsIn s None = ⊤
CollectsIn s (Some collection) = Collects s collection.running collection.marks

-- what a collection may still remove is known, over any shelf
abbrev pub KnowsCandidates : Index → Option CollectionView → Type 0
KnowsCandidates index None = ⊤
KnowsCandidates index (Some collection) = AreStoredIn index collection.marks

-- nor is it fresh, over any shelf
abbrev pub AreApart : Option CollectionView → Type 0
AreApart None = ⊤
AreApart (Some collection) = (key : Key) → is_candidate collection.marks key ≡ true → set.contains collection.running.fresh key ≡ false

-- what is known is kept for what the marks met; or nothing is known, where there was no memory for that
abbrev pub KeepsMet : MarksView → KnownView → KnownView → Type 0
KeepsMet marks old new = KeepsFor marks.commits (marks.marked ++ marks.pending) old new ⊎ (new ≡ nothing_known)

-- a depot is good, what it knows is so over its store as it stands, and its marks are those of the collection that runs. Objects that come leave that right; before one of
-- them leaves it has to be forgotten, or kept for what is marked
pub record IsKept {S : Type 0} (contents : S → Option Contents) (faults : S → ℕ) (depot : DepotView S) (known : KnownView) (collection : Option CollectionView)
    : Type 0 where
  pub good : IsGood contents faults depot
  pub fits : FitsIn contents depot.store known
  pub collects : (s : State) → state_of contents faults depot ≡ Some s → CollectsIn s collection
  pub candidates : KnowsCandidates depot.store.index collection
  pub apart : AreApart collection

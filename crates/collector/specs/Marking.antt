-- How objects are marked, and why one can't be. Our own. Read MarksOne, then MarksMany.
use Rattle.std.specs.Prelude.{◌≡◌, ◌≢◌, ◌≤◌, ◌<◌, ◌+◌, ◌&&◌, not, ℕ, zero, suc, Bool, true, false, List, [], ◌∷◌, ◌++◌, length, Option, None, Some, Err, ⊤}
use Rattle.std.specs.FinMap as map
use Rattle.ids.specs.Key.{Objects}
use Rattle.ids.specs.declared.key.Key.{Key}
use Rattle.ids.specs.declared.key.Kind.TheVariants.{Block}
use Rattle.object_graph.specs.Reached.{named}
use Rattle.object_graph.specs.Traversal.{distinct_from, is_in, walk_commit}
use Rattle.object_graph.specs.declared.fault.TreeFault.{TreeFault}
use Rattle.object_store.specs.Store.{damage_at}
use Rattle.object_store.specs.declared.error.StoreFault.TheVariants.{Damaged}
use Rattle.tree_walk.specs.Files.{first_due}
use Rattle.tree_walk.specs.Reading.{AnswersRead, IsDue}
use Rattle.tree_walk.specs.declared.fault.WalkFault.{WalkFault}
use Rattle.tree_walk.specs.declared.fault.WalkFault.TheVariants.{Incomplete, Unreadable, WrongKind, WrongSize, TooDeep, TooMany, Store}
use Rattle.collector.specs.Marks.{MarksView, is_candidate, needed_by}
use Rattle.collector.specs.Naming.{names_at}

-- the object that waits first is marked and leaves the candidates, and what it names and wasn't met waits
pub record MarksOne (objects : Objects) (old new : MarksView) : Type 0 where
  pub key : Key
  pub rest : List Key
  pub first : old.pending ≡ key ∷ rest
  pub commits : new.commits ≡ old.commits
  pub marked : new.marked ≡ old.marked ++ key ∷ []
  pub pending : new.pending ≡ rest ++ distinct_from (old.marked ++ old.pending) (named objects key)
  pub candidates : new.candidates ≡ map.remove old.candidates key

-- so many objects are marked, one after another
abbrev pub MarksMany : Objects → (old new : MarksView) → ℕ → Type 0
MarksMany objects old new zero = new ≡ old
MarksMany objects old new (suc count) = (next : MarksView) × MarksMany objects old next count × MarksOne objects next new

-- what the object names that waits first
abbrev pub named_first : Objects → List Key → List Key
named_first objects [] = []
named_first objects (key ∷ pending) = named objects key

-- nothing is marked; some of what the object names that waits first waits more
pub record WaitsWith (objects : Objects) (old new : MarksView) : Type 0 where
  pub front : List Key
  pub rest : List Key
  pub parts : named_first objects old.pending ≡ front ++ rest
  pub commits : new.commits ≡ old.commits
  pub marked : new.marked ≡ old.marked
  pub pending : new.pending ≡ old.pending ++ distinct_from (old.marked ++ old.pending) front
  pub candidates : new.candidates ≡ old.candidates

-- some objects are marked, and the next one goes on waiting
pub record MarksUpTo (objects : Objects) (old new : MarksView) : Type 0 where
  pub count : ℕ
  pub next : MarksView
  pub before : MarksMany objects old next count
  pub waits : WaitsWith objects next new

-- ---- over any shelf

-- the commits stay, marks are only added, and what is marked is no candidate any more
pub record HasMarked (old new : MarksView) : Type 0 where
  pub more : List Key
  pub commits : new.commits ≡ old.commits
  pub marked : new.marked ≡ old.marked ++ more
  pub candidates : (key : Key) → is_candidate new key ≡ (is_candidate old key && not (is_in more key))

-- so many were marked: as many as were asked for, unless nothing waits any more; and one at least, where one waited
pub record TellsMarked (at_most : ℕ) (old new : MarksView) (count : ℕ) : Type 0 where
  pub size : length new.marked ≡ length old.marked + count
  pub few : count ≤ at_most
  pub some : old.pending ≢ [] → 1 ≤ count
  pub all : count < at_most → new.pending ≡ []

-- ---- faults

-- whether a fault is one of the store
abbrev pub is_of_store : WalkFault → Bool
is_of_store (Store fault) = true
is_of_store (Incomplete key) = false
is_of_store (Unreadable key) = false
is_of_store (WrongKind id) = false
is_of_store (WrongSize id) = false
is_of_store (TooDeep path) = false
is_of_store (TooMany paths) = false

-- the first fault of the traversals of commits, one commit after another
abbrev pub first_fault : Objects → List (List ℕ) → Option TreeFault
first_fault objects [] = None
first_fault objects (commit ∷ commits) = first_due (walk_commit objects commit).fault (first_fault objects commits)

-- that fault, or one of the store
abbrev pub IsMarkFault : Objects → List (List ℕ) → WalkFault → Type 0
IsMarkFault objects commits fault = IsDue objects (first_fault objects commits) fault

-- damage is told of an object that is damaged and that one of the commits needs; and of no block, since none is read
abbrev pub IsDamageOfNeeded : Objects → List (List ℕ) → WalkFault → Type 0
IsDamageOfNeeded objects commits (Store (Damaged want got)) =
    (key : Key) × (damage_at objects key ≡ Some (Damaged want got)) × (needed_by objects commits key ≡ true) × (key.kind ≢ Block)
IsDamageOfNeeded objects commits other = ⊤

-- for a private clause: damage is told of this object alone, and of no block
abbrev pub IsDamageRead : Objects → Key → WalkFault → Type 0
IsDamageRead objects key (Store (Damaged want got)) = (damage_at objects key ≡ Some (Damaged want got)) × (key.kind ≢ Block)
IsDamageRead objects key other = ⊤

-- for a private clause: the object that waits first can't be read, or the store failed
pub record FailsToMark (objects : Objects) (marks : MarksView) (fault : WalkFault) : Type 0 where
  pub key : Key
  pub rest : List Key
  pub first : marks.pending ≡ key ∷ rest
  pub due : AnswersRead {T = List Key} objects (names_at objects key) (Err fault)
  pub damage : IsDamageRead objects key fault

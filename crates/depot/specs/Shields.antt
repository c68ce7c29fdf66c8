-- For private clauses: what a head update keeps from the collection that runs. Read ListsNeeded.
use Rattle.std.specs.Prelude.{◌≡◌, ◌⊎◌, ◌||◌, not, ℕ, true, filter, List, [], ◌∷◌, ◌++◌, Option, None, Some, Result, Ok, Err, ⊤}
use Rattle.ids.specs.Key.{Objects}
use Rattle.ids.specs.declared.key.Key.{Key}
use Rattle.collector.specs.Comparing.{is_below}
use Rattle.collector.specs.Marks.{needed_by}
use Rattle.commit_objects.specs.declared.commit.Commit.{Commit}
use Rattle.library_rules.specs.Changes.{keys_added, with_added}
use Rattle.library_rules.specs.LibraryState.{is_stored}
use Rattle.object_graph.specs.Objects.{commit_at, commit_key}
use Rattle.object_graph.specs.Traversal.{IsComplete, is_in}
use Rattle.object_graph.specs.declared.fault.TreeFault.{TreeFault}
use Rattle.object_store.specs.Store.{is_want}
use Rattle.tree_walk.specs.declared.fault.WalkFault.{WalkFault}
use Rattle.tree_walk.specs.declared.fault.WalkFault.TheVariants.{Incomplete, Unreadable, WrongKind, WrongSize, TooDeep, TooMany, Store}
use Rattle.depot.specs.DepotView.{CollectionView}
use Rattle.depot.specs.Plan.{objects_in}
use Rattle.depot.specs.declared.plan.Plan.{Plan}

-- what is stored, with what a plan makes
abbrev pub with_plan : Objects → Plan → Objects
with_plan objects plan = with_added objects (objects_in plan)

-- the head before and the pushed commit are complete as they are stored, and the head with what the plan makes
pub record AreWhole (objects : Objects) (before : List ℕ) (plan : Plan) (pushed : List ℕ) : Type 0 where
  pub older : IsComplete objects before
  pub head : IsComplete (with_plan objects plan) plan.head
  pub pushed_one : IsComplete objects pushed

-- the keys are needed by the head or the pushed commit, and what these need is among them or needed by the head before
pub record ListsNeeded (objects : Objects) (before : List ℕ) (plan : Plan) (pushed : List ℕ) (keys : List Key) : Type 0 where
  pub needed : (key : Key) → is_in keys key ≡ true → needed_by (with_plan objects plan) (plan.head ∷ pushed ∷ []) key ≡ true
  pub each : (key : Key) → needed_by (with_plan objects plan) (plan.head ∷ pushed ∷ []) key ≡ true
      → (is_in keys key || needed_by objects (before ∷ []) key) ≡ true

-- what a commit with this root needs that an older root isn't known to need, of objects that are made too
pub record NeedsBeside (objects all : Objects) (before : List ℕ) (commit root : List ℕ) (keys : List Key) : Type 0 where
  pub own : is_in keys (commit_key commit) ≡ true
  pub needed : (key : Key) → is_in keys key ≡ true → (key ≡ commit_key commit) ⊎ (is_below all root key ≡ true)
  pub each : (key : Key) → is_below all root key ≡ true → (is_in keys key || is_below objects before key) ≡ true

abbrev pub root_in : Result Commit TreeFault → Result (List ℕ) TreeFault
root_in (Ok commit) = Ok commit.root
root_in (Err fault) = Err fault

-- the root of a commit as it is stored, and that of the head that a plan makes
abbrev pub root_at : Objects → List ℕ → Result (List ℕ) TreeFault
root_at objects id = root_in (commit_at objects id)

abbrev pub plan_root : Objects → Plan → Result (List ℕ) TreeFault
plan_root objects plan = root_at (with_plan objects plan) plan.head

-- keys, and behind them what the head that a plan makes needs beside an older root
pub record ListsBoth (objects : Objects) (plan : Plan) (older root : List ℕ) (before keys : List Key) : Type 0 where
  pub more : List Key
  pub are : keys ≡ before ++ more
  pub needs : NeedsBeside objects (with_plan objects plan) older plan.head root more

-- the head is nowhere, or a fault of bytes that are at hand
abbrev pub MayLack : List ℕ → WalkFault → Type 0
MayLack head (Incomplete key) = key ≡ commit_key head
MayLack head (Unreadable key) = ⊤
MayLack head (Store fault) = is_want fault ≡ true
MayLack head (WrongKind id) = ⊥
MayLack head (WrongSize id) = ⊥
MayLack head (TooDeep path) = ⊥
MayLack head (TooMany paths) = ⊥

-- the same where a collection runs, and else no key
abbrev pub ListsNeededIn : Objects → List ℕ → Plan → List ℕ → Option CollectionView → List Key → Type 0
ListsNeededIn objects before plan pushed None keys = keys ≡ []
ListsNeededIn objects before plan pushed (Some collection) keys = ListsNeeded objects before plan pushed keys

-- the keys of what a plan makes
abbrev pub keys_made : Plan → List Key
keys_made plan = keys_added (objects_in plan)

-- those of the keys under which nothing is stored
abbrev pub unstored : Objects → List Key → List Key
unstored objects keys = filter (λ key. not (is_stored objects key)) keys

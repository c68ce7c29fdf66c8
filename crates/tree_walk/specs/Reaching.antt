-- For private clauses: what is reached object by object, in the order of first visit. Read IsSeen, then Reaches.
use Rattle.std.specs.Prelude.{◌≡◌, ℕ, Bool, true, if◌then◌else◌, List, [], ◌∷◌, None, Result, Ok, Err}
use Rattle.ids.specs.Key.{Objects}
use Rattle.ids.specs.declared.key.Key.{Key}
use Rattle.ids.specs.declared.key.Kind.{Kind}
use Rattle.ids.specs.declared.key.Kind.TheVariants.{Commit, Fs, Block}
use Rattle.fs_objects.specs.declared.file_object.FileObject.{FileObject}
use Rattle.object_graph.specs.Objects.{fs_key}
use Rattle.object_graph.specs.Reached.{named}
use Rattle.object_graph.specs.Traversal.{Walk, distinct_from, is_in, walk_commit}
use Rattle.tree_walk.specs.Files.{file_at}
use Rattle.tree_walk.specs.Reading.{IsDue}
use Rattle.tree_walk.specs.Visits.{MetView, is_done, with_blocks_met}
use Rattle.tree_walk.specs.declared.fault.WalkFault.{WalkFault}

-- `blocks` tells whether blocks are gone over, as everything else is
abbrev pub goes_over : Bool → Kind → Bool
goes_over blocks Commit = true
goes_over blocks Fs = true
goes_over blocks Block = blocks

abbrev pub chosen : Bool → List Key → List Key
chosen blocks [] = []
chosen blocks (key ∷ keys) = if goes_over blocks key.kind then key ∷ chosen blocks keys else chosen blocks keys

-- a file or directory that is finished, and a block that was met, where blocks are gone over
abbrev pub IsDoneOf : Kind → Bool → MetView → Key → Type 0
IsDoneOf Commit blocks met key = ⊥
IsDoneOf Fs blocks met key = is_done met key ≡ true
IsDoneOf Block blocks met key = blocks ≡ true → is_in met.keys key ≡ true

abbrev pub IsDone : Bool → MetView → Key → Type 0
IsDone blocks met key = IsDoneOf key.kind blocks met key

-- where a traversal made these visits, those that are gone over were met in their order; what is finished was met, and
-- what it names is done
pub record IsSeen (blocks : Bool) (objects : Objects) (visits : List Key) (met : MetView) : Type 0 where
  pub keys : distinct_from [] (chosen blocks visits) ≡ distinct_from [] met.keys
  pub there : (key : Key) → is_done met key ≡ true → is_in met.keys key ≡ true
  pub closed : (above key : Key) → is_done met above ≡ true → is_in (named objects above) key ≡ true → IsDone blocks met key

-- what was met and what was finished stay so
pub record Grows (old new : MetView) : Type 0 where
  pub met : (key : Key) → is_in old.keys key ≡ true → is_in new.keys key ≡ true
  pub done : (key : Key) → is_done old key ≡ true → is_done new key ≡ true

-- after these visits, and what is named here is done
pub record IsReached (blocks : Bool) (objects : Objects) (visits names : List Key) (old new : MetView) : Type 0 where
  pub seen : IsSeen blocks objects visits new
  pub grows : Grows old new
  pub there : (key : Key) → is_in names key ≡ true → IsDone blocks new key

-- so much was reached; or the store failed, since nothing else is wrong
abbrev pub ReachesSo : Bool → Objects → (visits names : List Key) → MetView → Result MetView WalkFault → Type 0
ReachesSo blocks objects visits names old (Ok new) = IsReached blocks objects visits names old new
ReachesSo blocks objects visits names old (Err fault) = IsDue objects None fault

-- wherever a traversal that saw what was met comes by the step without a fault, it is seen after it
abbrev pub Reaches : Bool → Objects → (Walk → Walk) → (names : List Key) → MetView → Result MetView WalkFault → Type 0
Reaches blocks objects step names old result = (w : Walk) → IsSeen blocks objects w.visits old → (step w).fault ≡ None → ReachesSo blocks objects (step w).visits names old result

-- the blocks of a file are met, where blocks are gone over; or the store failed
abbrev pub MeetsSo : Bool → Objects → List (List ℕ) → MetView → Result MetView WalkFault → Type 0
MeetsSo blocks objects ids old (Ok new) = new ≡ (if blocks then with_blocks_met ids old else old)
MeetsSo blocks objects ids old (Err fault) = IsDue objects None fault

abbrev pub MeetsBlocks : Bool → Objects → List ℕ → MetView → Result MetView WalkFault → Type 0
MeetsBlocks blocks objects id old result = (file : FileObject) → file_at objects id ≡ Ok file → MeetsSo blocks objects file.blocks old result

-- all that a commit's traversal visits, or all but blocks, each key once; or the store failed
abbrev pub ReachesAll : Bool → Objects → List ℕ → Result (List Key) WalkFault → Type 0
ReachesAll blocks objects commit (Ok keys) = keys ≡ distinct_from [] (chosen blocks (walk_commit objects commit).visits)
ReachesAll blocks objects commit (Err fault) = IsDue objects None fault

-- these are, of files and directories, the same keys as those
abbrev pub HasFsOf : List Key → List Key → Type 0
HasFsOf keys others = (id : List ℕ) → is_in keys (fs_key id) ≡ is_in others (fs_key id)

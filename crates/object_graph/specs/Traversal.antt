-- The traversal of a commit's objects: what it visits, how many paths it counts, and the first fault. Our own.
-- It is depth first, goes over the entries of each directory in ascending byte order of name, and goes over a shared
-- directory each time that it meets it. Read Walk and walk_entries, then walk_commit, IsComplete and needs.
use Rattle.std.specs.Prelude.{◌≡◌, ℕ, zero, suc, ◌+◌, ◌==◌, Bool, true, false, if◌then◌else◌, is_some, nat_lt, List, [], ◌∷◌, ◌++◌, length, Option, None, Some, Result, Ok, Err}
use Rattle.std.specs.FinMap as map
use Rattle.std.specs.List.{list_any}
use Rattle.std.specs.Ordering.{eq_by_cmp}
use Rattle.ids.specs.Key.{Objects, key_cmp}
use Rattle.ids.specs.declared.key.Key.{Key}
use Rattle.tree_model.specs.Path.{PathV}
use Rattle.tree_model.specs.declared.limits.TheConstants.{MAX_PATHS, MAX_NAMES}
use Rattle.fs_objects.specs.Mode.{is_directory_mode}
use Rattle.fs_objects.specs.declared.dirent.Dirent.{Dirent}
use Rattle.fs_objects.specs.declared.file_object.FileObject.{FileObject}
use Rattle.fs_objects.specs.declared.fs_object.FsObject.{FsObject}
use Rattle.fs_objects.specs.declared.fs_object.FsObject.TheVariants as fs
use Rattle.object_graph.specs.Objects.{commit_key, fs_key, block_key, is_nil, fs_at, commit_at, joined, in_name_order}
use Rattle.object_graph.specs.declared.fault.TreeFault.{TreeFault}
use Rattle.object_graph.specs.declared.fault.TreeFault.TheVariants.{Incomplete, WrongKind, WrongSize, TooDeep, TooMany}

-- how far a traversal came: the keys that it visited, in order; how many paths it counted; and the first fault
pub record Walk : Type 0 where
  pub visits : List Key
  pub paths : ℕ
  pub fault : Option TreeFault

abbrev pub start : Walk
start = record { visits = []; paths = 0; fault = None }

abbrev pub visited : Key → Walk → Walk
visited key w = record w { visits = w.visits ++ key ∷ [] }

abbrev pub failed : TreeFault → Walk → Walk
failed fault w = record w { fault = Some fault }

-- one path more, and at most 1,000,000
abbrev pub counted : Walk → Walk
counted w = if nat_lt MAX_PATHS (w.paths + 1) then failed (TooMany (w.paths + 1)) (record w { paths = w.paths + 1 }) else record w { paths = w.paths + 1 }

-- the next step, unless a fault came
abbrev pub next_by : Option TreeFault → (Walk → Walk) → Walk → Walk
next_by None step w = step w
next_by (Some fault) step w = w

abbrev pub then_walk : Walk → (Walk → Walk) → Walk
then_walk w step = next_by w.fault step w

-- the next step with what was read, or the fault
abbrev pub then_read : {A : Type 0} → Result A TreeFault → (A → Walk → Walk) → Walk → Walk
then_read (Ok object) step w = step object w
then_read (Err fault) step w = failed fault w

-- how the object of an entry is traversed: whether it is to be a directory, its path and its id
abbrev pub Below : Type 0
Below = Bool → PathV → List ℕ → Walk → Walk

-- `blocks` tells whether the blocks of files are visited: for a commit they are, for the paths of a tree alone they aren't
module _ (blocks : Bool) (objects : Objects) where
  -- a block must be stored
  abbrev pub walk_block : List ℕ → Walk → Walk
  walk_block id w = if is_some (map.get objects (block_key id)) then visited (block_key id) w else failed (Incomplete (block_key id)) (visited (block_key id) w)

  abbrev pub walk_blocks : List (List ℕ) → Walk → Walk
  walk_blocks [] w = w
  walk_blocks (id ∷ ids) w = then_walk (walk_block id w) (walk_blocks ids)

  -- the size that a file object tells must be the number of its bytes
  abbrev pub sized : List ℕ → FileObject → Walk → Walk
  sized id file w = if file.size == length (joined objects file.blocks) then w else failed (WrongSize id) w

  abbrev pub walk_file : List ℕ → FileObject → Walk → Walk
  walk_file id file w = if blocks then then_walk (walk_blocks file.blocks w) (sized id file) else w

  -- at each entry one path more is counted, and then its object is traversed
  abbrev pub walk_entries : Below → PathV → List Dirent → Walk → Walk
  walk_entries below path [] w = w
  walk_entries below path (e ∷ entries) w = then_walk (then_walk (counted w) (below (is_directory_mode e.mode) (path ++ e.name ∷ []) e.id)) (walk_entries below path entries)

  -- an object must be of the kind that its entry tells
  abbrev pub walk_found : Below → Bool → PathV → List ℕ → FsObject → Walk → Walk
  walk_found below wants_directory path id (fs.File file) w = if wants_directory then failed (WrongKind id) w else walk_file id file w
  walk_found below wants_directory path id (fs.Dir entries) w = if wants_directory then walk_entries below path (in_name_order entries) w else failed (WrongKind id) w

  -- forty zeros name no object, and nothing is visited; any other object is visited, and must be stored and readable
  abbrev pub walk_object : Below → Below
  walk_object below wants_directory path id w = if is_nil id then w else then_read (fs_at objects id) (walk_found below wants_directory path id) (visited (fs_key id) w)

  -- the traversal of an entry's object, where the path may have so many names more
  unfoldable pub walk_below : ℕ → Below
  walk_below zero wants_directory path id w = failed (TooDeep path) w
  walk_below (suc room) wants_directory path id w = walk_object (walk_below room) wants_directory path id w

  -- the traversal of a root, below which a path has at most 100 names
  abbrev pub walk_root : List ℕ → Walk → Walk
  walk_root id w = walk_object (walk_below MAX_NAMES) true [] id w

module _ (objects : Objects) where
  -- the traversal of a commit: its own key, and then its root with all blocks; parents aren't followed
  unfoldable pub walk_commit : List ℕ → Walk
  walk_commit id = then_read (commit_at objects id) (λ commit. walk_root true objects commit.root) (visited (commit_key id) start)

  -- a commit is complete: its traversal has no fault
  abbrev pub IsComplete : List ℕ → Type 0
  IsComplete id = (walk_commit id).fault ≡ None

  -- a directory object is complete as a root, with all blocks
  abbrev pub IsCompleteRoot : List ℕ → Type 0
  IsCompleteRoot root = (walk_root true objects root start).fault ≡ None

  -- the traversal of a file object on its own, with its blocks
  abbrev pub walk_file_at : List ℕ → Walk → Walk
  walk_file_at id w = walk_object true objects (walk_below true objects MAX_NAMES) false [] id w

-- whether a key is one of these
abbrev pub is_in : List Key → Key → Bool
is_in keys key = list_any (eq_by_cmp key_cmp key) keys

-- the keys that weren't met before, each once, in the order in which they are met first
abbrev pub distinct_from : List Key → List Key → List Key
distinct_from met [] = []
distinct_from met (key ∷ keys) = if is_in met key then distinct_from met keys else key ∷ distinct_from (key ∷ met) keys

-- what a commit needs: each key that its traversal visits, once, in the order of first visit
abbrev pub needs : Objects → List ℕ → List Key
needs objects id = distinct_from [] (walk_commit objects id).visits

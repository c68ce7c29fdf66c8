-- File objects and the bytes of their blocks. Our own. Read file_at, blocks_due and file_due first.
use Rattle.std.specs.Prelude.{◌≡◌, ℕ, ◌+◌, ◌^◌, ◌<◌, ◌≤◌, ◌==◌, nat_lt, Bool, true, false, if◌then◌else◌, is_some, IfSome, List, [], ◌∷◌, ◌++◌, drop, take, min, length, Option, None, Some, Result, Ok, Err, ⊤}
use Rattle.std.specs.FinMap as map
use Rattle.ids.specs.Key.{Objects}
use Rattle.fs_objects.specs.declared.file_object.FileObject.{FileObject}
use Rattle.fs_objects.specs.declared.fs_object.FsObject.{FsObject}
use Rattle.fs_objects.specs.declared.fs_object.FsObject.TheVariants as fs
use Rattle.object_graph.specs.Objects.{block_bytes, block_key, fs_at, is_nil, joined, same_id}
use Rattle.object_graph.specs.Traversal.{start, then_walk, walk_file_at}
use Rattle.object_graph.specs.declared.fault.TreeFault.{TreeFault}
use Rattle.object_graph.specs.declared.fault.TreeFault.TheVariants.{Incomplete, WrongKind, WrongSize}
use Rattle.tree_walk.specs.Reading.{IsDue}
use Rattle.tree_walk.specs.declared.fault.WalkFault.{WalkFault}
use Rattle.tree_walk.specs.declared.unread.Unread.{Unread}

-- the file that was read
abbrev pub as_file : List ℕ → Result FsObject TreeFault → Result FileObject TreeFault
as_file id (Ok (fs.File file)) = Ok file
as_file id (Ok (fs.Dir entries)) = Err (WrongKind id)
as_file id (Err fault) = Err fault

-- the file object under an id; for forty zeros that of no blocks
abbrev pub file_at : Objects → List ℕ → Result FileObject TreeFault
file_at objects id = if is_nil id then Ok (record { blocks = []; size = 0 }) else as_file id (fs_at objects id)

-- ---- what is wrong with a file

-- the first block that isn't stored
abbrev pub blocks_due : Objects → List (List ℕ) → Option TreeFault
blocks_due objects [] = None
blocks_due objects (id ∷ ids) = if is_some (map.get objects (block_key id)) then blocks_due objects ids else Some (Incomplete (block_key id))

-- else the size, where it isn't the number of the bytes
abbrev pub size_due : Objects → List ℕ → FileObject → Option TreeFault
size_due objects id file = if file.size == length (joined objects file.blocks) then None else Some (WrongSize id)

abbrev pub first_due : Option TreeFault → Option TreeFault → Option TreeFault
first_due None later = later
first_due (Some fault) later = Some fault

abbrev pub file_due : Objects → List ℕ → FileObject → Option TreeFault
file_due objects id file = first_due (blocks_due objects file.blocks) (size_due objects id file)

-- the first fault of one file, and then of another
abbrev pub files_due : Objects → (left right : List ℕ) → Option TreeFault
files_due objects left right = (then_walk (walk_file_at objects left start) (walk_file_at objects right)).fault

-- a number, if 64 bits hold it
abbrev pub fitting : ℕ → Option ℕ
fitting n = if nat_lt n (2 ^ 64) then Some n else None

-- a sum that may have passed 64 bits, with one number more
abbrev pub added : Option ℕ → ℕ → Option ℕ
added None size = None
added (Some total) size = fitting (total + size)

-- a sum with the sizes of blocks
abbrev pub added_all : Objects → Option ℕ → List (List ℕ) → Option ℕ
added_all objects total [] = total
added_all objects total (id ∷ ids) = added_all objects (added total (length (block_bytes objects id))) ids

-- ---- two files, block by block

-- what is left of a file: the rest of the block in memory, and the blocks after it
abbrev pub rest_of : Objects → Unread → List ℕ
rest_of objects u = drop u.place u.block ++ joined objects u.blocks.now

-- the block in memory has the bytes that are stored under its id
abbrev pub IsHeld : Objects → Unread → Type 0
IsHeld objects u = IfSome u.held (λ id. block_bytes objects id ≡ u.block)

-- what is in memory is as it is stored, the blocks to come are stored, and as many bytes are left of both
pub record AreReady (objects : Objects) (left right : Unread) : Type 0 where
  pub left_held : IsHeld objects left
  pub right_held : IsHeld objects right
  pub left_stored : blocks_due objects left.blocks.now ≡ None
  pub right_stored : blocks_due objects right.blocks.now ≡ None
  pub bound : length (rest_of objects left) ≡ length (rest_of objects right)

-- what is left then is the same exactly where what was left before is
pub record GoesOn (objects : Objects) (left right later_left later_right : Unread) : Type 0 where
  pub ready : AreReady objects later_left later_right
  pub same : same_id (rest_of objects later_left) (rest_of objects later_right) ≡ same_id (rest_of objects left) (rest_of objects right)

-- one step of the comparison goes on, or tells whether what was left is the same
abbrev pub StepsSo : Objects → (left right later_left later_right : Unread) → Result (Option Bool) WalkFault → Type 0
StepsSo objects left right later_left later_right (Ok None) = GoesOn objects left right later_left later_right
StepsSo objects left right later_left later_right (Ok (Some same)) = same ≡ same_id (rest_of objects left) (rest_of objects right)
StepsSo objects left right later_left later_right (Err fault) = IsDue objects None fault

-- nothing is left in memory of either, and the next block of both is the same, before these
pub record HaveSameNext (left right : Unread) (left_rest right_rest : List (List ℕ)) : Type 0 where
  pub left_end : length left.block ≤ left.place
  pub right_end : length right.block ≤ right.place
  pub id : List ℕ
  pub left_next : left.blocks.now ≡ id ∷ left_rest
  pub right_next : right.blocks.now ≡ id ∷ right_rest

-- what a load leaves: the next block is in memory, or there is none
pub record IsLoaded (objects : Objects) (old new : Unread) : Type 0 where
  pub held : IsHeld objects new
  pub rest : rest_of objects new ≡ rest_of objects old
  pub stored : blocks_due objects new.blocks.now ≡ None

abbrev pub LoadsSo : Objects → (old new : Unread) → Result Bool WalkFault → Type 0
LoadsSo objects old new (Ok more) = IsLoaded objects old new
LoadsSo objects old new (Err fault) = IsDue objects None fault

-- how much is left to do with a file
abbrev pub weight : Unread → ℕ
weight u = (length u.blocks.now + length u.blocks.now) + (if nat_lt u.place (length u.block) then 1 else 0)

-- a load that found a block has less to do; one that found none had no block to come
abbrev pub Loaded : (old new : Unread) → Bool → Type 0
Loaded old new true = weight new < weight old
Loaded old new false = old.blocks.now ≡ []

-- a step that goes on has less to do
abbrev pub Lighter : (left right later_left later_right : Unread) → Option Bool → Type 0
Lighter left right later_left later_right None = weight later_left + weight later_right < weight left + weight right
Lighter left right later_left later_right (Some same) = ⊤

-- the fronts of both are the same, as far as both reach, or they aren't
abbrev pub Fronts : (left right : List ℕ) → Option ℕ → Type 0
Fronts left right (Some count) = (count ≡ min (length left) (length right)) × (take count left ≡ take count right)
Fronts left right None = same_id (take (min (length left) (length right)) left) (take (min (length left) (length right)) right) ≡ false

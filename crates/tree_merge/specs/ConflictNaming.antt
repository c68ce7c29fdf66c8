-- Where the conflict copies of a merge go, among known paths. Our own. Read place_of, then IsFreePlace and IsNamed.
use Rattle.tree_model.specs.declared.limits.TheConstants.{MAX_NAME}
use Rattle.std.specs.Prelude.{◌≡◌, ℕ, ◌≤◌, ◌<◌, true, List, [], ◌∷◌, ◌++◌, length, Some, None, is_some, Result, Ok, Err, ⊤}
use Rattle.std.specs.FinMap as map
use Rattle.ids.specs.Key.{Objects}
use Rattle.tree_model.specs.Path.{PathV, parent_of, last_name, path_cmp}
use Rattle.tree_model.specs.DirectorySurvival.{Sides}
use Rattle.tree_model.specs.ConflictCopies.{conflicts, first_long}
use Rattle.tree_model.specs.MergeParts.{copy_at}
use Rattle.tree_model.specs.ThreeWayMerge.{merged}
use Rattle.conflict_names.specs.Naming.{naming}
use Rattle.tree_merge.specs.FileEntry.{as_entry}
use Rattle.tree_merge.specs.Sides.{Entries, IsSeen}
use Rattle.tree_merge.specs.Decision.{Marks}
use Rattle.tree_merge.specs.declared.conflict_copies.CopyFault.{CopyFault}
use Rattle.tree_merge.specs.declared.conflict_copies.CopyFault.TheVariants.{TooLong, NoMemory}
use Rattle.tree_merge.specs.declared.conflict_copies.Named.{Named}
use Rattle.tree_merge.specs.declared.file_entry.FileEntry.{FileEntry}

-- paths by paths
abbrev pub Places : Type 0
Places = map.FinMap path_cmp PathV

-- the name of a file's conflict copy of a number
abbrev pub name_of : PathV → FileEntry → ℕ → List ℕ
name_of path file number = naming (last_name path) file.modifier file.mtime number

-- its place, in the file's own directory
abbrev pub place_of : PathV → FileEntry → ℕ → PathV
place_of path file number = parent_of path ++ name_of path file number ∷ []

-- the place of this number, whose name isn't too long
pub record IsPlaceAt (path : PathV) (file : FileEntry) (number : ℕ) (place : PathV) : Type 0 where
  pub is : place ≡ place_of path file number
  pub short : length (name_of path file number) ≤ MAX_NAME

-- the name of this number is too long
pub record IsLongAt (path : PathV) (file : FileEntry) (number : ℕ) (of : PathV) (bytes : ℕ) : Type 0 where
  pub own : of ≡ path
  pub is : bytes ≡ length (name_of path file number)
  pub long : MAX_NAME < bytes

-- each place of a lesser number is a known path
abbrev pub AreKnown : Marks → PathV → FileEntry → ℕ → Type 0
AreKnown known path file number = (j : ℕ) → 1 ≤ j → j < number → is_some (map.get known (place_of path file j)) ≡ true

-- the place of the least number from 1 on that is no known path
pub record IsFreePlace (known : Marks) (path : PathV) (file : FileEntry) (place : PathV) : Type 0 where
  pub number : ℕ
  pub from_one : 1 ≤ number
  pub at : IsPlaceAt path file number place
  pub free : map.get known place ≡ None
  pub least : AreKnown known path file number

-- the name of the least number whose place isn't known is too long
pub record IsLongPlace (known : Marks) (path : PathV) (file : FileEntry) (of : PathV) (bytes : ℕ) : Type 0 where
  pub number : ℕ
  pub from_one : 1 ≤ number
  pub at : IsLongAt path file number of bytes
  pub least : AreKnown known path file number

-- a file that left a path stands at the place of its copy, which is known now and told
pub record HasCopied (path place : PathV) (file : FileEntry) (known known_after : Marks) (nodes nodes_after : Entries) (copies copies_after : Places) : Type 0 where
  pub marked : known_after ≡ map.insert known place tt
  pub stands : nodes_after ≡ map.insert nodes place (as_entry file)
  pub told : copies_after ≡ map.insert copies path place

-- the merged tree, and the paths of its conflict copies by those that their files left
pub record IsNamedTree (objects : Objects) (s : Sides) (named : Named) : Type 0 where
  pub short : first_long (conflicts naming s) ≡ None
  pub nodes : IsSeen objects named.nodes (merged naming s)
  pub copies : (path : PathV) → map.get named.copies path ≡ copy_at naming s path

-- the merged tree with its copies, or the first file whose conflict name is too long
abbrev pub IsNamed : Objects → Sides → Result Named CopyFault → Type 0
IsNamed objects s (Ok named) = IsNamedTree objects s named
IsNamed objects s (Err (TooLong path bytes)) = first_long (conflicts naming s) ≡ Some (path, bytes)
IsNamed objects s (Err NoMemory) = ⊤

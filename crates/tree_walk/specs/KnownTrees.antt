-- What is known of stored trees: which directories and which files are whole. Our own. Read KnownView, then Fits, then KeepsFor.
use Rattle.std.specs.Prelude.{◌≡◌, ◌⊎◌, ◌||◌, ℕ, true, if◌then◌else◌, is_some, List, [], Option, None, Some, ⊤, refl}
use Rattle.std.specs.Coded.{Coded, code_by, coded×, coded_list, coded_ℕ}
use Rattle.std.specs.List.{list_any}
use base.Stored.{coded_unit}
use Rattle.std.specs.FinMap as map
use Rattle.ids.specs.Key.{Objects, key_cmp}
use Rattle.ids.specs.contracts.key.Key as key_contracts
use Rattle.ids.specs.declared.key.Key.{Key}
use Rattle.object_graph.specs.Objects.{fs_key, same_id}
use Rattle.object_graph.specs.Traversal.{IsComplete, IsCompleteRoot, is_in, needs, start, walk_file_at}
use Rattle.tree_walk.specs.Extent.{extent_of}
use Rattle.tree_walk.specs.contracts.extent.Extent as extent_contracts
use Rattle.tree_walk.specs.declared.extent.Extent.{Extent}

-- the keys of directories, each with what lies below it, and the keys of files: those that were learned, and those that were
-- kept, with the commits for which they were
pub record KnownView : Type 0 where
  pub directories : map.FinMap key_cmp Extent
  pub files : map.FinMap key_cmp ⊤
  pub kept_directories : map.FinMap key_cmp Extent
  pub kept_files : map.FinMap key_cmp ⊤
  pub commits : List (List ℕ)

-- it is stored as its fields
abbrev pub known_code : Coded KnownView
known_code = code_by (map.FinMap key_cmp Extent × (map.FinMap key_cmp ⊤ × (map.FinMap key_cmp Extent × (map.FinMap key_cmp ⊤ × List (List ℕ)))))
    (coded× (map.code key_contracts.the_row.coded extent_contracts.the_row.coded) (coded× (map.code key_contracts.the_row.coded coded_unit)
    (coded× (map.code key_contracts.the_row.coded extent_contracts.the_row.coded) (coded× (map.code key_contracts.the_row.coded coded_unit) (coded_list (coded_list coded_ℕ))))))
    (λ known. (known.directories, (known.files, (known.kept_directories, (known.kept_files, known.commits)))))
    (λ parts. record { directories = parts.0; files = parts.1.0; kept_directories = parts.1.1.0; kept_files = parts.1.1.1.0; commits = parts.1.1.1.1 }) (λ _. refl)

abbrev pub nothing_known : KnownView
nothing_known = record { directories = map.empty; files = map.empty; kept_directories = map.empty; kept_files = map.empty; commits = [] }

-- what was learned, or else what was kept
abbrev pub or_kept : {V : Type 0} → Option V → Option V → Option V
or_kept (Some learned) kept = Some learned
or_kept None kept = kept

-- what is known of a directory's key, and of a file's
abbrev pub extent_known : KnownView → Key → Option Extent
extent_known known key = or_kept (map.get known.directories key) (map.get known.kept_directories key)

abbrev pub file_known : KnownView → Key → Option ⊤
file_known known key = or_kept (map.get known.files key) (map.get known.kept_files key)

-- a directory is complete as a root, and so much lies below it
pub record IsKnownDirectory (objects : Objects) (id : List ℕ) (extent : Extent) : Type 0 where
  pub complete : IsCompleteRoot objects id
  pub is : extent ≡ extent_of objects id

-- these directories are complete, and their numbers are right; these files are whole
pub record AreRight (objects : Objects) (extents : map.FinMap key_cmp Extent) (whole : map.FinMap key_cmp ⊤) : Type 0 where
  pub directories : (id : List ℕ) (extent : Extent) → map.get extents (fs_key id) ≡ Some extent → IsKnownDirectory objects id extent
  pub files : (id : List ℕ) → is_some (map.get whole (fs_key id)) ≡ true → (walk_file_at objects id start).fault ≡ None

-- one of these commits needs a key
pub record IsNeededBy (objects : Objects) (commits : List (List ℕ)) (key : Key) : Type 0 where
  pub commit : List ℕ
  pub is : list_any (same_id commit) commits ≡ true
  pub there : is_in (needs objects commit) key ≡ true

-- what is known is so; and what was kept is needed by commits that are complete
pub record AllRight (objects : Objects) (known : KnownView) : Type 0 where
  pub learned : AreRight objects known.directories known.files
  pub kept : AreRight objects known.kept_directories known.kept_files
  pub complete : (commit : List ℕ) → list_any (same_id commit) known.commits ≡ true → IsComplete objects commit
  pub needed : (key : Key) → (is_some (map.get known.kept_directories key) || is_some (map.get known.kept_files key)) ≡ true → IsNeededBy objects known.commits key

-- the same as one fact, so that who hands it on needn't take it apart
pub data Fits (objects : Objects) (known : KnownView) : Type 0 where
  right : AllRight objects known → Fits objects known

-- ---- what is kept for commits

-- what is known of these keys, and nothing else
pub record KeepsAmong (keys : List Key) (old new : KnownView) : Type 0 where
  pub directories : (key : Key) → map.get new.kept_directories key ≡ (if is_in keys key then extent_known old key else None)
  pub files : (key : Key) → map.get new.kept_files key ≡ (if is_in keys key then file_known old key else None)

-- what was kept before, for the same commits
pub record KeepsOn (commits : List (List ℕ)) (old new : KnownView) : Type 0 where
  pub same : old.commits ≡ commits
  pub directories : new.kept_directories ≡ old.kept_directories
  pub files : new.kept_files ≡ old.kept_files

-- for these commits the one or the other is kept, and the rest is forgotten
pub record KeepsFor (given : List (List ℕ)) (keys : List Key) (old new : KnownView) : Type 0 where
  pub commits : new.commits ≡ given
  pub directories : new.directories ≡ map.empty
  pub files : new.files ≡ map.empty
  pub kept : KeepsAmong keys old new ⊎ KeepsOn given old new

-- ---- for private clauses

-- one directory more, and one file more
abbrev pub with_directory : KnownView → List ℕ → Extent → KnownView
with_directory known id extent = record known { directories = map.insert known.directories (fs_key id) extent }

abbrev pub with_file : KnownView → List ℕ → KnownView
with_file known id = record known { files = map.insert known.files (fs_key id) tt }

-- what is known of a key is put into a map
abbrev pub put_known : {V : Type 0} → map.FinMap key_cmp V → Key → Option V → map.FinMap key_cmp V
put_known known key None = known
put_known known key (Some value) = map.insert known key value

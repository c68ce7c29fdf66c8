-- What an object names, and what is reached from some objects by it. Our own. Read named, then ReachedFrom.
use Rattle.std.specs.Prelude.{◌≡◌, ℕ, true, false, if◌then◌else◌, List, [], ◌∷◌, ◌++◌, Result, Ok, Err}
use Rattle.ids.specs.Key.{Objects}
use Rattle.ids.specs.declared.key.Key.{Key}
use Rattle.ids.specs.declared.key.Kind.{Kind}
use Rattle.ids.specs.declared.key.Kind.TheVariants.{Commit, Fs, Block}
use Rattle.fs_objects.specs.declared.dirent.Dirent.{Dirent}
use Rattle.fs_objects.specs.declared.fs_object.FsObject.{FsObject}
use Rattle.fs_objects.specs.declared.fs_object.FsObject.TheVariants as fs
use Rattle.commit_objects.specs.declared.commit.Commit.{Commit as CommitObject}
use Rattle.object_graph.specs.Objects.{block_key, commit_at, fs_at, fs_key, in_name_order, is_nil}
use Rattle.object_graph.specs.Traversal.{is_in}
use Rattle.object_graph.specs.declared.fault.TreeFault.{TreeFault}

-- the file or directory object of an id; forty zeros name none
abbrev pub own_keys : List ℕ → List Key
own_keys id = if is_nil id then [] else fs_key id ∷ []

abbrev pub entry_keys : List Dirent → List Key
entry_keys [] = []
entry_keys (e ∷ entries) = own_keys e.id ++ entry_keys entries

abbrev pub block_keys : List (List ℕ) → List Key
block_keys [] = []
block_keys (id ∷ ids) = block_key id ∷ block_keys ids

-- a directory names the objects of its entries, in ascending byte order of name, and a file its blocks
abbrev pub named_in : FsObject → List Key
named_in (fs.Dir entries) = entry_keys (in_name_order entries)
named_in (fs.File file) = block_keys file.blocks

-- what can't be read names nothing
abbrev pub named_by_fs : Result FsObject TreeFault → List Key
named_by_fs (Ok object) = named_in object
named_by_fs (Err fault) = []

-- a commit names its root; its parents aren't followed
abbrev pub named_by_commit : Result CommitObject TreeFault → List Key
named_by_commit (Ok commit) = own_keys commit.root
named_by_commit (Err fault) = []

module _ (objects : Objects) where
  abbrev pub named_under : Kind → List ℕ → List Key
  named_under Commit id = named_by_commit (commit_at objects id)
  named_under Fs id = named_by_fs (fs_at objects id)
  named_under Block id = []

  -- the keys that the object of a key names
  abbrev pub named : Key → List Key
  named key = named_under key.kind key.id

-- a key is one of those that wait, or is named, and not marked, by one that is reached
pub data ReachedFrom (objects : Objects) (marked pending : List Key) : Key → Type 0 where
  pends : (key : Key) → is_in pending key ≡ true → ReachedFrom objects marked pending key
  names : (above key : Key) → ReachedFrom objects marked pending above → is_in (named objects above) key ≡ true → is_in marked key ≡ false → ReachedFrom objects marked pending key

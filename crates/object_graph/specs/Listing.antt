-- What lies below a directory as a list, in the order of its traversal. Our own. Read listed first.
use Rattle.std.specs.Prelude.{ℕ, zero, suc, List, [], ◌∷◌, ◌++◌, if◌then◌else◌}
use Rattle.ids.specs.Key.{Objects}
use Rattle.tree_model.specs.Path.{PathV}
use Rattle.fs_objects.specs.Mode.{is_directory_mode}
use Rattle.fs_objects.specs.declared.dirent.Dirent.{Dirent}
use Rattle.object_graph.specs.Objects.{in_name_order, entry_of, dirents_at}
use Rattle.object_graph.specs.declared.entry.Entry.{Entry}

-- paths with their entries
abbrev pub Listed : Type 0
Listed = List (PathV × Entry)

-- the same below a directory of this name
abbrev pub prefixed : List ℕ → Listed → Listed
prefixed name [] = []
prefixed name (x ∷ listed) = (name ∷ x.0, x.1) ∷ prefixed name listed

-- an entry, and what lies below it
abbrev pub listed_entry : (List ℕ → Listed) → Dirent → Listed
listed_entry inner e = (e.name ∷ [], entry_of e) ∷ prefixed e.name (if is_directory_mode e.mode then inner e.id else [])

abbrev pub listed_in : (List ℕ → Listed) → List Dirent → Listed
listed_in inner [] = []
listed_in inner (e ∷ entries) = listed_entry inner e ++ listed_in inner entries

-- what lies below a directory, as far as a path may have so many names more
unfoldable pub listed : Objects → ℕ → List ℕ → Listed
listed objects zero id = []
listed objects (suc room) id = listed_in (listed objects room) (in_name_order (dirents_at objects id))

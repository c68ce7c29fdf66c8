-- For private clauses: the steps of a traversal below a directory, and how far a traversal came. Read directory_step first.
use Rattle.std.specs.Prelude.{◌≡◌, ℕ, Bool, true, List, [], ◌∷◌, ◌++◌, None}
use Rattle.ids.specs.Key.{Objects}
use Rattle.tree_model.specs.Path.{PathV}
use Rattle.fs_objects.specs.Mode.{is_directory_mode}
use Rattle.fs_objects.specs.declared.dirent.Dirent.{Dirent}
use Rattle.object_graph.specs.Traversal.{Walk, counted, then_walk, walk_entries, walk_object, walk_below}

-- `blocks` tells whether the blocks of files are visited, as in the traversal; below `path` there may be `room` names more
module _ (blocks : Bool) (objects : Objects) (room : ℕ) (path : PathV) where
  -- an entry and what lies below it, entries one after another, and a directory object with what lies below it
  abbrev pub entry_step : Dirent → Walk → Walk
  entry_step e w = then_walk (counted w) (walk_below blocks objects room (is_directory_mode e.mode) (path ++ e.name ∷ []) e.id)

  abbrev pub entries_step : List Dirent → Walk → Walk
  entries_step entries w = walk_entries blocks objects (walk_below blocks objects room) path entries w

  abbrev pub directory_step : List ℕ → Walk → Walk
  directory_step id w = walk_object blocks objects (walk_below blocks objects room) true path id w

-- a traversal met no fault, and counted so many paths
pub record HasCounted (w : Walk) (paths : ℕ) : Type 0 where
  pub none : w.fault ≡ None
  pub count : w.paths ≡ paths

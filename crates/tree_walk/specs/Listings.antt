-- For private clauses: what going over a directory leaves in the list of what was found. Read Lists first.
use Rattle.std.specs.Prelude.{◌≡◌, ℕ, zero, suc, List, [], ◌∷◌, ◌++◌, length, Result, Ok, Err}
use Rattle.ids.specs.Key.{Objects}
use Rattle.tree_model.specs.Path.{PathV}
use Rattle.fs_objects.specs.declared.dirent.Dirent.{Dirent}
use Rattle.object_graph.specs.Listing.{Listed, listed_entry, listed_in, listed}
use Rattle.object_graph.specs.Traversal.{Walk}
use Rattle.tree_walk.specs.Reading.{IsDue}
use Rattle.tree_walk.specs.Steps.{HasCounted}
use Rattle.tree_walk.specs.declared.fault.WalkFault.{WalkFault}

-- the list with a directory's path in front
abbrev pub rooted : PathV → Listed → Listed
rooted path [] = []
rooted path (x ∷ found) = (path ++ x.0, x.1) ∷ rooted path found

-- what an entry gives, and what entries give, where a path may have so many names more
abbrev pub listed_one : Objects → ℕ → Dirent → Listed
listed_one objects zero e = []
listed_one objects (suc room) e = listed_entry (listed objects room) e

abbrev pub listed_from : Objects → ℕ → List Dirent → Listed
listed_from objects zero entries = []
listed_from objects (suc room) entries = listed_in (listed objects room) entries

-- where a traversal came to: its fault comes, or else this was added to what was found, and each path that was counted
-- was found
abbrev pub Ends : {T : Type 0} → Objects → Walk → PathV → Listed → (old new : Listed) → Result T WalkFault → Type 0
Ends objects w path more old new (Ok done) = HasCounted w (length new) × (new ≡ old ++ rooted path more)
Ends objects w path more old new (Err fault) = IsDue objects w.fault fault

-- from each traversal that what was found may stand for, the step comes there
abbrev pub Lists : {T : Type 0} → Objects → (Walk → Walk) → PathV → Listed → (old new : Listed) → Result T WalkFault → Type 0
Lists objects step path more old new result = (w : Walk) → HasCounted w (length old) → Ends objects (step w) path more old new result

-- For private clauses: what a check finds below a directory. Read Measures.
use Rattle.std.specs.Prelude.{◌≡◌, ◌≤◌, ◌+◌, ℕ, Result, Ok, Err}
use Rattle.ids.specs.Key.{Objects}
use Rattle.tree_model.specs.declared.limits.TheConstants.{MAX_PATHS}
use Rattle.object_graph.specs.Listing.{Listed}
use Rattle.object_graph.specs.Traversal.{Walk}
use Rattle.tree_walk.specs.Extent.{extent_in}
use Rattle.tree_walk.specs.Reading.{IsDue}
use Rattle.tree_walk.specs.Steps.{HasCounted}
use Rattle.tree_walk.specs.declared.extent.Extent.{Extent}
use Rattle.tree_walk.specs.declared.fault.WalkFault.{WalkFault}

-- where a traversal came to: its fault comes, or else so much was found, and each path of it was counted
abbrev pub Found : Objects → Walk → ℕ → Listed → Result Extent WalkFault → Type 0
Found objects w paths more (Ok extent) = HasCounted w (paths + extent.paths) × (extent ≡ extent_in more)
Found objects w paths more (Err fault) = IsDue objects w.fault fault

-- from each traversal that counted so many paths, the step comes there
abbrev pub Measures : Objects → (Walk → Walk) → ℕ → Listed → Result Extent WalkFault → Type 0
Measures objects step paths more result = (w : Walk) → HasCounted w paths → Found objects (step w) paths more result

-- it is within the limits, where so many paths were counted before and a path may have so many names more
pub record IsWithin (room paths : ℕ) (extent : Extent) : Type 0 where
  pub deep_enough : extent.deep ≤ room
  pub few : paths + extent.paths ≤ MAX_PATHS

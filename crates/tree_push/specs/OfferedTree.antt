-- The objects that are made of what is offered: just the directories of its tree, and the objects of its files that are new or changed.
-- Our own. Read IsMadeOf.
use Rattle.std.specs.Prelude.{◌≡◌, ◌⊎◌, ◌↔◌, ℕ, List, None, IsSome}
use Rattle.std.specs.FinMap as fin
use Rattle.ids.specs.Key.{Objects}
use Rattle.ids.specs.ObjectId.{nil}
use Rattle.ids.specs.declared.key.Key.{Key}
use Rattle.tree_model.specs.Path.{PathV}
use Rattle.object_graph.specs.Unchanged.{Keeps}
use Rattle.tree_merge.specs.TreeBuilding.{AreDirectories, AreNamed, HasMade, IsDirectoryOf, IsNilOrMade}
use Rattle.tree_push.specs.OfferedEntries.{AreOffered, Entries, KnownPaths, SeenPaths}
use Rattle.tree_push.specs.Wanted.{IsChangedObject}

-- of what was seen and is known these objects were made, with this root
pub record IsMadeOf (moment : ℕ) (user : List ℕ) (knowns : KnownPaths) (seens : SeenPaths) (root : List ℕ) (made : Objects) : Type 0 where
  -- the directories of the tree that is offered, the root among them, and forty zeros for each that is empty
  pub dirs : Objects
  pub kept : Keeps dirs made
  pub named : AreNamed dirs
  pub entries : Entries
  pub are : AreOffered moment user knowns seens entries
  pub texts : AreDirectories entries dirs
  pub top : IsNilOrMade dirs root
  pub zeros : (root ≡ nil) ↔ ((path : PathV) → fin.get seens path ≡ None)
  pub needed : (id : List ℕ) → HasMade dirs id → (objects : Objects) → Keeps dirs objects → IsDirectoryOf objects root id
  -- and nothing else but files that are new or changed
  pub others : (key : Key) → IsSome (fin.get made key) → IsSome (fin.get dirs key) ⊎ IsChangedObject knowns seens key

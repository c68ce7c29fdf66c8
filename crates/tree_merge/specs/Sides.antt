-- What the three trees of a merge have at one path, as entries and as nodes. Our own. Read join_of, then AreSeen.
use Rattle.std.specs.Prelude.{◌≡◌, ◌||◌, if◌then◌else◌, Option, Some, None, is_some, option_map}
use Rattle.std.specs.FinMap as map
use Rattle.ids.specs.Key.{Objects}
use Rattle.tree_model.specs.Path.{PathV, path_cmp}
use Rattle.tree_model.specs.Tree.{Tree, IsTree}
use Rattle.tree_model.specs.DirectorySurvival.{Sides}
use Rattle.tree_model.specs.ConflictCopies.{in_trees}
use Rattle.object_graph.specs.Objects.{node_of}
use Rattle.object_graph.specs.Unchanged.{Keeps}
use Rattle.object_graph.specs.declared.entry.Entry.{Entry}
use Rattle.tree_merge.specs.declared.sides.Three.{Three}

-- the entries at a path, by their paths
abbrev pub Entries : Type 0
Entries = map.FinMap path_cmp Entry

-- what the three trees have, by its path
abbrev pub Threes : Type 0
Threes = map.FinMap path_cmp Three

-- a tree is that of a table of entries, with the contents of files among these objects
abbrev pub IsSeen : Objects → Entries → Tree → Type 0
IsSeen objects entries tree = (path : PathV) → map.get tree path ≡ option_map (node_of objects) (map.get entries path)

-- no entry on any side
abbrev pub blank : Three
blank = record { base = None; head = None; pushed = None }

abbrev pub or_blank : Option Three → Three
or_blank None = blank
or_blank (Some three) = three

-- what three trees have at a path at which they have these entries
abbrev pub join_of : (base head pushed : Option Entry) → Option Three
join_of base head pushed = if is_some base || (is_some head || is_some pushed) then Some (record { base = base; head = head; pushed = pushed }) else None

-- the entry of each side
abbrev pub base_in : Option Three → Option Entry
base_in three = (or_blank three).base

abbrev pub head_in : Option Three → Option Entry
head_in three = (or_blank three).head

abbrev pub pushed_in : Option Three → Option Entry
pushed_in three = (or_blank three).pushed

-- the three trees of a merge are trees
pub record AreTrees (s : Sides) : Type 0 where
  pub base : IsTree s.base
  pub head : IsTree s.head
  pub pushed : IsTree s.pushed

-- a table tells three trees: it has their paths, with what each has there
pub record AreSeen (objects : Objects) (joined : map.FinMap path_cmp Three) (s : Sides) : Type 0 where
  pub known : (path : PathV) → in_trees s path ≡ is_some (map.get joined path)
  pub base : (path : PathV) → map.get s.base path ≡ option_map (node_of objects) (base_in (map.get joined path))
  pub head : (path : PathV) → map.get s.head path ≡ option_map (node_of objects) (head_in (map.get joined path))
  pub pushed : (path : PathV) → map.get s.pushed path ≡ option_map (node_of objects) (pushed_in (map.get joined path))

-- a table tells three trees among all objects that keep these
abbrev pub AreSeenIn : Objects → map.FinMap path_cmp Three → Sides → Type 0
AreSeenIn objects joined s = (more : Objects) → Keeps objects more → AreSeen more joined s

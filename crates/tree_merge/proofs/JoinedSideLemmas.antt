-- The three trees of a merge at one path. The key lemmas are parts_joined, whole_join and sides_are_trees.
use Rattle.std.proofs.Common.{◌≡◌, ◌||◌, ℕ, is_some, List, refl, ap, ◌∙◌, subst, Option, None, Some, option_map}
use Rattle.std.specs.FinMap as map
use Rattle.ids.specs.Key.{Objects}
use Rattle.tree_model.specs.Tree.{Tree, Fits}
use Rattle.tree_model.specs.DirectorySurvival.{Sides}
use Rattle.tree_model.proofs.OneSideLemmas.{same_len}
use Rattle.object_graph.specs.Objects.{IsTreeOf, node_of}
use Rattle.object_graph.specs.Traversal.{IsCompleteRoot}
use Rattle.object_graph.specs.declared.entry.Entry.{Entry}
use Rattle.object_graph.proofs.FittingLemmas.{one_tree, root_fits}
use Rattle.tree_merge.specs.FileChoice.{IsWholeAt, IsWholeIf}
use Rattle.tree_merge.specs.FileEntry.{file_in}
use Rattle.tree_merge.specs.Merging.{AreComplete}
use Rattle.tree_merge.specs.Sides.{AreTrees, Entries, IsSeen, base_in, head_in, join_of, pushed_in}

-- ---- three sides, joined

pub some_joined : (a b c : Option Entry) → (is_some a || (is_some b || is_some c)) ≡ is_some (join_of a b c)
some_joined None None None = refl
some_joined None None (Some z) = refl
some_joined None (Some y) None = refl
some_joined None (Some y) (Some z) = refl
some_joined (Some x) None None = refl
some_joined (Some x) None (Some z) = refl
some_joined (Some x) (Some y) None = refl
some_joined (Some x) (Some y) (Some z) = refl

-- each side of what was joined
pub parts_joined : (a b c : Option Entry) → (base_in (join_of a b c) ≡ a) × (head_in (join_of a b c) ≡ b) × (pushed_in (join_of a b c) ≡ c)
parts_joined None None None = (refl, refl, refl)
parts_joined None None (Some z) = (refl, refl, refl)
parts_joined None (Some y) None = (refl, refl, refl)
parts_joined None (Some y) (Some z) = (refl, refl, refl)
parts_joined (Some x) None None = (refl, refl, refl)
parts_joined (Some x) None (Some z) = (refl, refl, refl)
parts_joined (Some x) (Some y) None = (refl, refl, refl)
parts_joined (Some x) (Some y) (Some z) = (refl, refl, refl)

pub whole_join : (objects : Objects) (a b c : Option Entry) → IsWholeIf objects (file_in a) → IsWholeIf objects (file_in b) → IsWholeIf objects (file_in c) → IsWholeAt objects (join_of a b c)
whole_join objects None None None x y z = tt
whole_join objects None None (Some c) x y z = (x, y, z)
whole_join objects None (Some b) None x y z = (x, y, z)
whole_join objects None (Some b) (Some c) x y z = (x, y, z)
whole_join objects (Some a) None None x y z = (x, y, z)
whole_join objects (Some a) None (Some c) x y z = (x, y, z)
whole_join objects (Some a) (Some b) None x y z = (x, y, z)
whole_join objects (Some a) (Some b) (Some c) x y z = (x, y, z)

pub same_some : {A B : Type 0} (f : A → B) (o : Option A) → is_some (option_map f o) ≡ is_some o
same_some f None = refl
same_some f (Some x) = refl

-- as many paths as the tree
pub seen_len : (objects : Objects) (entries : Entries) (tree : Tree) → IsSeen objects entries tree → map.len tree ≡ map.len entries
seen_len objects entries tree seen = same_len tree entries (λ q. ap is_some (seen q) ∙ same_some (node_of objects) (map.get entries q))

pub fits : (objects : Objects) (root : List ℕ) (tree : Tree) → IsCompleteRoot objects root → IsTreeOf objects root tree → Fits tree
fits objects root tree complete is =
    let own = root_fits objects root complete in
    subst Fits (one_tree objects root own.0 tree own.1 is) own.2

-- the three trees are those of the roots
pub record AreTreesOf (objects : Objects) (base head pushed : List ℕ) (s : Sides) : Type 0 where
  pub of_base : IsTreeOf objects base s.base
  pub of_head : IsTreeOf objects head s.head
  pub of_pushed : IsTreeOf objects pushed s.pushed

module _ (objects : Objects) (base head pushed : List ℕ) (complete : AreComplete objects base head pushed) (s : Sides) (are : AreTreesOf objects base head pushed s) where
  pub sides_are_trees : AreTrees s
  sides_are_trees = record {
    base = (fits objects base s.base complete.base_whole are.of_base).whole;
    head = (fits objects head s.head complete.head_whole are.of_head).whole;
    pushed = (fits objects pushed s.pushed complete.pushed_whole are.of_pushed).whole;
  }

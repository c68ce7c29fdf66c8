-- The trees below three directories, and those below one of their entries. The key lemmas are sides_exist, side_fits and parts_at.
use Rattle.std.proofs.Common.{◌≡◌, ℕ, List, [], ◌∷◌, ◌++◌, refl, sym, ap, ◌∙◌, arith, Option, Some, None, is_some, option_map, option_and_then, true≢false}
use Rattle.std.specs.FinMap as map
use Rattle.ids.specs.Key.{Objects}
use Rattle.tree_model.specs.declared.node.Node.{Node}
use Rattle.tree_model.specs.Path.{PathV, path_cmp}
use Rattle.tree_model.specs.PathOrder.{paths_exact, paths_total}
use Rattle.tree_model.specs.Tree.{Fits, Tree}
use Rattle.tree_model.specs.DirectorySurvival.{Sides}
use Rattle.tree_model.specs.MergeParts.{AreParts, IsPart}
use Rattle.fs_objects.specs.declared.dirent.Dirent.{Dirent}
use Rattle.object_graph.specs.Objects.{directory_in, dirents_at, entry_in, entry_named, node_of}
use Rattle.object_graph.proofs.FittingLemmas.{root_fits}
use Rattle.tree_merge.specs.DirectoryMerge.{AreSidesOf, IsSideOf}
use Rattle.tree_merge.specs.Opening.{AreWholeSides, IsWholeIf, dirents_if, ids_in}
use Rattle.tree_merge.specs.Sides.{AreTrees}
use Rattle.tree_merge.specs.declared.level.Trio.{Trio}
use Rattle.tree_merge.specs.declared.opening.Ids.{Ids}
use Rattle.tree_merge.proofs.JoinedSideLemmas.{fits}

module _ (objects : Objects) where
  -- ---- one side

  -- nothing lies below no entries
  pub none_in : (q : PathV) → entry_in objects [] q ≡ None
  none_in [] = refl
  none_in (n ∷ []) = refl
  none_in (n ∷ m ∷ q) = refl

  -- what lies below an entry, by its directory
  pub below_entry : (o : Option (List ℕ)) (m : List ℕ) (r : PathV) → entry_in objects (dirents_if objects o) (m ∷ r) ≡ option_and_then (λ id. entry_in objects (dirents_at objects id) (m ∷ r)) o
  below_entry None m [] = refl
  below_entry None m (k ∷ r) = refl
  below_entry (Some id) m r = refl

  -- a tree of no paths
  none_fits : (t : Tree) → ((q : PathV) → map.get t q ≡ None) → Fits t
  none_fits t none = record {
    whole = record {
      no_root = none [];
      in_dirs = λ d n some there. absurd (true≢false (sym there ∙ ap is_some (none (d ++ n ∷ []))));
      named = λ q there. absurd (true≢false (sym there ∙ ap is_some (none q)));
    };
    count = let few : map.len t ≡ 0 = ap map.len (map.same_map paths_total paths_exact t map.empty (λ q. none q ∙ sym (map.get-empty path_cmp q))) ∙ map.len-empty path_cmp Node in omega (arith, few);
    depth = λ q there. absurd (true≢false (sym there ∙ ap is_some (none q)));
  }

  pub side_exists : (room : ℕ) (o : Option (List ℕ)) → IsWholeIf objects room o → (t : Tree) × IsSideOf objects o t
  side_exists room None whole = (map.empty, λ q. map.get-empty path_cmp q ∙ sym (ap (option_map (node_of objects)) (none_in q)))
  side_exists room (Some id) whole = let own = root_fits objects id whole.complete in (own.0, own.1)

  pub side_fits : (room : ℕ) (o : Option (List ℕ)) → IsWholeIf objects room o → (t : Tree) → IsSideOf objects o t → Fits t
  side_fits room None whole t is = none_fits t (λ q. is q ∙ ap (option_map (node_of objects)) (none_in q))
  side_fits room (Some id) whole t is = fits objects id t whole.complete is

  -- the tree below an entry is a part of the whole
  side_part : (es : List Dirent) (n : List ℕ) (t u : Tree) → ((q : PathV) → map.get t q ≡ option_map (node_of objects) (entry_in objects es q))
      → IsSideOf objects (directory_in (entry_named n es)) u → IsPart (n ∷ []) t u
  side_part es n t u of_t of_u = record {
    no_root = of_u [];
    below = λ m r.
        of_u (m ∷ r) ∙ ap (option_map (node_of objects)) (below_entry (directory_in (entry_named n es)) m r)
        ∙ sym (of_t (n ∷ m ∷ r));
  }

  -- ---- three sides

  pub sides_exist : (room : ℕ) (ids : Ids) → AreWholeSides objects room ids → (s : Sides) × AreSidesOf objects ids s
  sides_exist room ids whole =
      let b = side_exists room ids.base whole.0 in
      let h = side_exists room ids.head whole.1 in
      let p = side_exists room ids.pushed whole.2 in
      (record { base = b.0; head = h.0; pushed = p.0 }, record { base = b.1; head = h.1; pushed = p.1 })

  pub side_trees : (room : ℕ) (ids : Ids) → AreWholeSides objects room ids → (s : Sides) → AreSidesOf objects ids s → AreTrees s
  side_trees room ids whole s are = record {
    base = (side_fits room ids.base whole.0 s.base are.base).whole;
    head = (side_fits room ids.head whole.1 s.head are.head).whole;
    pushed = (side_fits room ids.pushed whole.2 s.pushed are.pushed).whole;
  }

  -- the entries of a name, and their directories
  abbrev pub trio_of : Ids → List ℕ → Trio
  trio_of ids n = record {
    base = entry_named n (dirents_if objects ids.base);
    head = entry_named n (dirents_if objects ids.head);
    pushed = entry_named n (dirents_if objects ids.pushed);
  }

  abbrev pub ids_at : Ids → List ℕ → Ids
  ids_at ids n = ids_in (trio_of ids n)

  pub parts_at : (ids : Ids) (n : List ℕ) (s c : Sides) → AreSidesOf objects ids s → AreSidesOf objects (ids_at ids n) c → AreParts (n ∷ []) s c
  parts_at ids n s c are below = record {
    base = side_part (dirents_if objects ids.base) n s.base c.base are.base below.base;
    head = side_part (dirents_if objects ids.head) n s.head c.head are.head below.head;
    pushed = side_part (dirents_if objects ids.pushed) n s.pushed c.pushed are.pushed below.pushed;
  }

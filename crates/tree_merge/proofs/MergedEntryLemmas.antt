-- The entries of a merged tree. The key lemmas are sound, few and over.
use Rattle.std.proofs.Common.{◌≡◌, ◌≤◌, ◌<◌, ℕ, Bool, true, if◌then◌else◌, is_some, List, [], ◌∷◌, ◌++◌, refl, sym, ap, ◌∙◌, subst, Option, None, Some, option_map, arith, lt-ltb, le-ltb, inl, inr}
use Rattle.std.specs.FinMap as map
use Rattle.ids.specs.Key.{Objects}
use Rattle.tree_model.specs.declared.node.FileVersion.{FileVersion}
use Rattle.tree_model.specs.Path.{PathV}
use Rattle.tree_model.specs.Tree.{Tree, IsTree, file_of, file_at, is_dir}
use Rattle.tree_model.specs.DirectorySurvival.{Sides}
use Rattle.tree_model.specs.ThreeWayMerge.{merge_by, merged, MergedTree as merged_tree, TooMany as too_many}
use Rattle.tree_model.proofs.MergedAtLemmas.{from_side}
use Rattle.tree_model.proofs.ResultTreeLemmas.{merged_is_tree}
use Rattle.fs_objects.specs.Mode.{is_file_mode}
use Rattle.conflict_names.specs.Naming.{merge_of, naming}
use Rattle.conflict_names.proofs.GoodNameLemmas.{naming-naming}
use Rattle.object_graph.specs.Objects.{IsTreeOf, entry_below, node_of}
use Rattle.object_graph.specs.Unchanged.{Keeps}
use Rattle.object_graph.specs.declared.entry.Entry.{Entry}
use Rattle.object_graph.specs.declared.entry.Entry.TheVariants.{Dir, File}
use Rattle.tree_merge.specs.ConflictNaming.{IsNamedTree}
use Rattle.tree_merge.specs.FileEntry.{as_entry, version_of}
use Rattle.tree_merge.specs.Merging.{AreComplete}
use Rattle.tree_merge.specs.Sides.{AreTrees}
use Rattle.tree_merge.specs.TreeBuilding.{IsSound}
use Rattle.tree_merge.specs.declared.conflict_copies.Named.{Named}
use Rattle.tree_merge.specs.declared.file_entry.FileEntry.{FileEntry}
use Rattle.tree_merge.proofs.JoinedSideLemmas.{AreTreesOf, same_some, seen_len, sides_are_trees}
use Rattle.tree_merge.proofs.MadeLemmas.{kept_itself}
use Rattle.tree_merge.proofs.StoredTreeLemmas.{file_modes}
use Rattle.ids.proofs.BasicLemmas.{none_from_option_map}

-- ---- the merged entries

pub side_mode : (objects : Objects) (root : List ℕ) (tree : Tree) → IsTreeOf objects root tree → (path : PathV) (version : FileVersion) → file_at tree path ≡ Some version
    → is_file_mode version.mode ≡ true
side_mode objects root tree is path version there = by (entry_below objects path root) refl (ap file_of (sym (is path)) ∙ there)
  where
    by : (o : Option Entry) → entry_below objects path root ≡ o → file_of (option_map (node_of objects) o) ≡ Some version → is_file_mode version.mode ≡ true
    by None found is = cc
    by (Some Dir) found is = cc
    by (Some (File id mode mtime modifier size)) found is =
        let file : FileEntry = record { id = id; mode = mode; mtime = mtime; modifier = modifier; size = size } in
        let one : version_of objects file ≡ version = cc in
        subst (λ (v : FileVersion). is_file_mode v.mode ≡ true) one (file_modes objects path root (as_entry file) found file refl)

pub dir_back : (objects : Objects) (o : Option Entry) → is_dir (option_map (node_of objects) o) ≡ true → o ≡ Some Dir
dir_back objects None is = cc
dir_back objects (Some Dir) is = refl
dir_back objects (Some (File id mode mtime modifier size)) is = cc

module _ (objects : Objects) (base head pushed : List ℕ) (complete : AreComplete objects base head pushed) (s : Sides) (are : AreTreesOf objects base head pushed s) (named : Named)
    (told : (more : Objects) → Keeps objects more → IsNamedTree more s named) where
  pub here : IsNamedTree objects s named
  here = told objects (kept_itself objects)

  pub sound : IsSound named.nodes
  sound = record {
    no_root = none_from_option_map (node_of objects) (map.get named.nodes []) (sym (here.nodes []) ∙ whole.no_root);
    in_dirs = λ dir name other some.
        dir_back objects (map.get named.nodes dir)
        (ap is_dir (sym (here.nodes dir)) ∙ whole.in_dirs dir name other (ap is_some (here.nodes (dir ++ name ∷ [])) ∙ same_some (node_of objects) (map.get named.nodes (dir ++ name ∷ [])) ∙ some));
    modes = λ path file there.
        let from = from_side naming naming-naming s path (version_of objects file) (here.nodes path ∙ ap (option_map (node_of objects)) there) in
        elim from.side [
          | inl is ↦ side_mode objects head s.head are.of_head from.from (version_of objects file) is
          | inr is ↦ side_mode objects pushed s.pushed are.of_pushed from.from (version_of objects file) is
        ];
  }
    where
      trees : AreTrees s
      trees = sides_are_trees objects base head pushed complete s are

      whole : IsTree (merged naming s)
      whole = merged_is_tree naming naming-naming s trees.base trees.head trees.pushed here.short

  pub tree_len : map.len (merged naming s) ≡ map.len named.nodes
  tree_len = seen_len objects named.nodes (merged naming s) here.nodes

  pub few : map.len named.nodes ≤ 1000000 → merge_of s ≡ merged_tree (merged naming s)
  few bound =
      ap (λ o. merge_by o (merged naming s)) here.short
      ∙ ap (λ (b : Bool). if b then too_many (map.len (merged naming s)) else merged_tree (merged naming s)) (le-ltb 1000000 (map.len (merged naming s)) (omega (arith, tree_len)))

  pub over : (paths : ℕ) → paths ≡ map.len named.nodes → 1000000 < map.len named.nodes → merge_of s ≡ too_many paths
  over paths is bound =
      ap (λ o. merge_by o (merged naming s)) here.short
      ∙ ap (λ (b : Bool). if b then too_many (map.len (merged naming s)) else merged_tree (merged naming s)) (lt-ltb 1000000 (map.len (merged naming s)) (omega (arith, tree_len)))
      ∙ ap too_many (tree_len ∙ sym is)

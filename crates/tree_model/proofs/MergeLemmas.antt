-- What a merged tree has at each path. The key lemmas are get-merged, one_side_merge and merge_is.
use Rattle.std.proofs.Common.{◌≡◌, ◌≢◌, ◌≤◌, Bool, true, false, cond, if◌then◌else◌, List, [], ◌∷◌, ◌++◌, map as map_list, refl, sym, ap, ap₂, ◌∙◌, Option, Some, None, IsSome, is_some, option_map, le-ltb, true≢false, ◌⊎◌, inl, inr}
use Rattle.std.specs.Option.{option_or}
use Rattle.std.specs.FinMap as map
use Rattle.std.proofs.lemmas.List.{nil_from_length}
use Rattle.ids.proofs.BasicLemmas.{none_from_is_some}
use Rattle.tree_model.specs.declared.limits.TheConstants.{MAX_PATHS}
use Rattle.tree_model.specs.declared.node.FileVersion.{FileVersion}
use Rattle.tree_model.specs.declared.node.Node.{Node}
use Rattle.tree_model.specs.declared.node.Node.TheVariants.{Dir, File}
use Rattle.tree_model.specs.Path.{PathV, path_cmp}
use Rattle.tree_model.specs.PathOrder.{paths_total}
use Rattle.tree_model.specs.Tree.{Tree, file_at, has_dir, file_of, is_dir}
use Rattle.tree_model.specs.DirectorySurvival.{Sides, main_at, stays, paths_of_all}
use Rattle.tree_model.specs.ConflictCopies.{told, with_told, leaver_at, leavers, in_trees, Naming, conflicts, moves, tries, conflict_spot, first_long}
use Rattle.tree_model.specs.ThreeWayMerge.{node_at, file_moved, merged, MergedTree, TooMany, merge, merge_by}
use Rattle.tree_model.proofs.ListedLemmas.{listed, find-told, same_path}
use Rattle.tree_model.proofs.OneSideLemmas.{Follows, stays_follows, not_both}

find_append : {X : Type 0} (q : PathV) (es fs : List (PathV × X)) → map.find path_cmp q (es ++ fs) ≡ option_or (map.find path_cmp q es) (map.find path_cmp q fs)
find_append q [] fs = refl
find_append {X = X} q (e ∷ es) fs = by (same_path q e.0) (find_append q es fs)
  where
    by : (b : Bool) → map.find path_cmp q (es ++ fs) ≡ option_or (map.find path_cmp q es) (map.find path_cmp q fs)
        → cond b (Some e.1) (map.find path_cmp q (es ++ fs)) ≡ option_or (cond b (Some e.1) (map.find path_cmp q es)) (map.find path_cmp q fs)
    by true more = refl
    by false more = more

-- the entries of the conflict copies
abbrev pub copies : Naming → Sides → List (PathV × Node)
copies naming s = map_list file_moved (conflicts naming s)

pub get-merged : (naming : Naming) (s : Sides) (q : PathV)
    → map.get (merged naming s) q ≡ option_or (map.find path_cmp q (copies naming s)) (if in_trees s q then node_at s q else None)
get-merged naming s q =
    map.get-from_entries paths_total (copies naming s ++ told (node_at s) (paths_of_all s)) q
    ∙ find_append q (copies naming s) (told (node_at s) (paths_of_all s))
    ∙ ap (option_or (map.find path_cmp q (copies naming s))) (find-told (node_at s) (paths_of_all s) q ∙ ap (λ (b : Bool). if b then node_at s q else None) (listed s q))

-- ---- where no file leaves its name

told_none : {X : Type 0} (f : PathV → Option X) (ks : List PathV) → ((q : PathV) → f q ≡ None) → told f ks ≡ []
told_none f [] none = refl
told_none f (k ∷ ks) none = ap (λ o. with_told k o (told f ks)) (none k) ∙ told_none f ks none

no_entries : {X : Type 0} → map.entries (map.empty {X = X} {R = path_cmp}) ≡ []
no_entries {X} = nil_from_length (map.entries (map.empty {X = X} {R = path_cmp})) (sym (map.len-entries (map.empty {X = X} {R = path_cmp})) ∙ map.len-empty path_cmp X)

pub no_conflicts : (naming : Naming) (s : Sides) → ((q : PathV) → leaver_at s q ≡ None) → conflicts naming s ≡ []
no_conflicts naming s none =
    let empty : map.entries (leavers s) ≡ [] = ap (λ es. map.entries (map.from_entries {R = path_cmp} es)) (told_none (leaver_at s) (paths_of_all s) none) ∙ no_entries in
    ap (moves same_path (in_trees s) (conflict_spot naming) (tries s) []) empty

-- ---- where one side decides

is_root : (q : PathV) → (q ≡ []) ⊎ (q ≢ [])
is_root [] = inl refl
is_root (n ∷ q) = inr (λ e. cc)

module _ (s : Sides) (x : Tree) (f : Follows s x) where
  no_leaver : (q : PathV) → leaver_at s q ≡ None
  no_leaver q =
      ap (λ o. option_or o (if stays s q then main_at s q else None)) (f.side q)
      ∙ elim (is_root q) [
        | inl root ↦ at_root root
        | inr other ↦ by (has_dir x q) refl (stays_follows s x f q other)
      ]
    where
      no_main : file_at x q ≡ None → main_at s q ≡ None
      no_main e = none_from_is_some (main_at s q) (f.main q ∙ ap is_some e)

      hidden : (b : Bool) (o : Option FileVersion) → o ≡ None → (if b then o else None) ≡ None
      hidden true o e = e
      hidden false o e = refl

      at_root : q ≡ [] → (if stays s q then main_at s q else None) ≡ None
      at_root e = hidden (stays s q) (main_at s q) (no_main (ap (file_at x) e ∙ ap file_of f.tree.no_root))

      by : (b : Bool) → has_dir x q ≡ b → stays s q ≡ has_dir x q → (if stays s q then main_at s q else None) ≡ None
      by true is same = hidden (stays s q) (main_at s q) (no_main (not_both (map.get x q) is))
      by false is same = ap (λ (b : Bool). if b then main_at s q else None) (same ∙ is)

  -- what the merged tree has at a path
  abbrev pub node_of : PathV → Option Node
  node_of q = if has_dir x q then Some Dir else option_map File (main_at s q)

  absent : (q : PathV) → in_trees s q ≡ false → map.get x q ≡ None
  absent q e = by (map.get x q) (f.given q)
    where
      by : (o : Option Node) → (IsSome o → in_trees s q ≡ true) → o ≡ None
      by None given = refl
      by (Some node) given = absurd (true≢false (sym (given refl) ∙ e))

  pub get_one_side : (naming : Naming) (q : PathV) → map.get (merged naming s) q ≡ node_of q
  get_one_side naming q =
      get-merged naming s q
      ∙ ap (λ ms. option_or (map.find path_cmp q (map_list file_moved ms)) (if in_trees s q then node_at s q else None)) (no_conflicts naming s no_leaver)
      ∙ by (in_trees s q) refl
    where
      by : (b : Bool) → in_trees s q ≡ b → (if b then node_at s q else None) ≡ node_of q
      by true is =
          let other : q ≢ [] = λ e. true≢false (sym is ∙ ap (in_trees s) e ∙ f.no_root) in
          ap (λ (d : Bool). if d then Some Dir else option_map File (main_at s q)) (stays_follows s x f q other)
      by false is =
          let none : map.get x q ≡ None = absent q is in
          let main : main_at s q ≡ None = none_from_is_some (main_at s q) (f.main q ∙ ap (λ o. is_some (file_of o)) none) in
          sym (ap₂ (λ (d : Bool) (o : Option FileVersion). if d then Some Dir else option_map File o) (ap is_dir none) main)

pub not_long : (naming : Naming) (b h p : Tree) (x : Tree) → Follows (record { base = b; head = h; pushed = p }) x
    → map.len (merged naming (record { base = b; head = h; pushed = p })) ≤ MAX_PATHS
    → merge naming b h p ≡ MergedTree (merged naming (record { base = b; head = h; pushed = p }))
not_long naming b h p x f few =
    let s : Sides = record { base = b; head = h; pushed = p } in
    ap (λ ms. merge_by (first_long ms) (merged naming s)) (no_conflicts naming s (no_leaver s x f))
    ∙ ap (λ (r : Bool). if r then TooMany (map.len (merged naming s)) else MergedTree (merged naming s)) (le-ltb MAX_PATHS (map.len (merged naming s)) few)

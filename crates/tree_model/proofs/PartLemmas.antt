-- Below a directory a merge is that of what the three trees have there. The key lemmas are tree_part, merges_below and part_len.
use Rattle.std.proofs.Common.{◌≡◌, ◌≢◌, ℕ, ◌||◌, ◌&&◌, not, Bool, true, false, if◌then◌else◌, T, List, [], ◌∷◌, ◌++◌, map as map_list, length, nat_lt, refl, sym, ap, ap₂, ◌∙◌, subst, append-nil, append_assoc, Option, Some, None, IsSome, is_some, option_map, true≢false, inl, inr}
use Rattle.std.proofs.lemmas.Bool.{and_parts, or_cases, or_right}
use Rattle.std.specs.Bool.{one_answer, then_some}
use Rattle.std.specs.FinMap as map
use Rattle.std.specs.FinMap.Entries.{below_all}
use Rattle.std.specs.List.{AllByRecursion}
use Rattle.std.specs.Ordering.{is_lt}
use Rattle.std.specs.Option.{option_or}
use Rattle.ids.proofs.BasicLemmas.{apart_from_is_lt, pushed_is_some}
use Rattle.tree_model.specs.declared.limits.TheConstants.{MAX_NAME}
use Rattle.tree_model.specs.declared.node.FileVersion.{FileVersion}
use Rattle.tree_model.specs.declared.node.Node.{Node}
use Rattle.tree_model.specs.declared.node.Node.TheVariants.{Dir, File}
use Rattle.tree_model.specs.Path.{PathV, IsPath, last_name, parent_of, path_cmp}
use Rattle.tree_model.specs.FileMerge.{Choice, choice, choice_by, same_file}
use Rattle.tree_model.specs.Tree.{Tree, IsTree, file_at, file_of, is_dir}
use Rattle.tree_model.specs.DirectorySurvival.{Sides, choice_at, gets_file, is_under, is_within, kept, kept_dir, keeps, main_at, paths_of_all, stays}
use Rattle.tree_model.specs.ConflictCopies.{Naming, in_trees, leaver_at}
use Rattle.tree_model.specs.MergeParts.{AreParts, IsPart, MergesBelow, copy_at, long_in}
use Rattle.tree_model.specs.PathCounts.{paths_below}
use Rattle.tree_model.specs.ThreeWayMerge.{IsNaming, merged, node_at}
use Rattle.tree_model.proofs.BehindLemmas.{IsPath-behind, last_behind, parent_behind, some_behind, under_behind, within_behind}
use Rattle.tree_model.proofs.BelowLemmas.{name_itself, parent_last, under_within, within_is, within_of}
use Rattle.tree_model.proofs.CopyLemmas.{get-merged_known, keys_len}
use Rattle.tree_model.proofs.FirstOfLemmas.{copy_some}
use Rattle.tree_model.proofs.ListedLemmas.{any_at, listed, same_path}
use Rattle.tree_model.proofs.MergedAtLemmas.{nothing_under}
use Rattle.tree_model.proofs.RegionLemmas.{IsRegion, copy_region, merged_region}
use Rattle.tree_model.proofs.ResultTreeLemmas.{any_keeps, no_root_merged, not_root}
use Rattle.tree_model.proofs.ShownCountLemmas.{AreDistinctPaths, listed_below, same_turned}
use Rattle.tree_model.proofs.SortedEntryLemmas.{left_holds, right_holds}
use Rattle.tree_model.proofs.SurvivalLemmas.{stays_from}

-- no path of a table stands twice
pub keys_distinct : {X : Type 0} (m : map.FinMap path_cmp X) → AreDistinctPaths (map.keys m)
keys_distinct {X} m = all (map.entries m) (map.entries_sorted m)
  where
    others : (p : PathV) (es : List (PathV × X)) → T (below_all path_cmp p es) → AllByRecursion (λ (q : PathV). same_path q p ≡ false) (map_list (λ (e : PathV × X). e.0) es)
    others p [] h = tt
    others p (e ∷ es) h = (
      same_turned e.0 p ∙ apart_from_is_lt (path_cmp p e.0) (left_holds (is_lt (path_cmp p e.0)) (below_all path_cmp p es) h),
      others p es (right_holds (is_lt (path_cmp p e.0)) (below_all path_cmp p es) h),
    )

    all : (es : List (PathV × X)) → T (map.is_sorted path_cmp es) → AreDistinctPaths (map_list (λ (e : PathV × X). e.0) es)
    all [] h = tt
    all (e ∷ es) h = (
      others e.0 es (left_holds (below_all path_cmp e.0 es) (map.is_sorted path_cmp es) h),
      all es (right_holds (below_all path_cmp e.0 es) (map.is_sorted path_cmp es) h),
    )

-- ---- a part of a tree

-- the part is a tree too
pub tree_part : (d : PathV) (t u : Tree) → IsPart d t u → IsTree t → IsTree u
tree_part d t u part tree = record {
  no_root = part.no_root;
  in_dirs = λ e n some there.
      let whole : d ++ (e ++ n ∷ []) ≡ (d ++ e) ++ n ∷ [] = sym (append_assoc d e (n ∷ [])) in
      let below : IsSome (map.get t ((d ++ e) ++ n ∷ [])) = subst (λ (p : PathV). IsSome (map.get t p)) whole (ap is_some (sym (same (e ++ n ∷ []) (pushed_is_some e n))) ∙ there) in
      ap is_dir (same e some) ∙ tree.in_dirs (d ++ e) n (some_behind d e some) below;
  named = by_root;
}
  where
    same : (q : PathV) → q ≢ [] → map.get u q ≡ map.get t (d ++ q)
    same [] some = absurd (some refl)
    same (n ∷ q) some = part.below n q

    by_root : (q : PathV) → IsSome (map.get u q) → IsPath q
    by_root [] there = absurd (true≢false (sym there ∙ ap is_some part.no_root))
    by_root (n ∷ q) there = IsPath-behind d (n ∷ q) (tree.named (d ++ n ∷ q) (ap is_some (sym (part.below n q)) ∙ there))

module _ (s c : Sides) (d : PathV) (parts : AreParts d s c) where
  at_base : (q : PathV) → q ≢ [] → map.get c.base q ≡ map.get s.base (d ++ q)
  at_base [] some = absurd (some refl)
  at_base (n ∷ q) some = parts.base.below n q

  at_head : (q : PathV) → q ≢ [] → map.get c.head q ≡ map.get s.head (d ++ q)
  at_head [] some = absurd (some refl)
  at_head (n ∷ q) some = parts.head.below n q

  at_pushed : (q : PathV) → q ≢ [] → map.get c.pushed q ≡ map.get s.pushed (d ++ q)
  at_pushed [] some = absurd (some refl)
  at_pushed (n ∷ q) some = parts.pushed.below n q

  -- what stands at a path of the parts, by its three nodes
  by_nodes : {Y : Type 0} (f : Option Node → Option Node → Option Node → Y) (q : PathV) → q ≢ []
      → f (map.get c.base q) (map.get c.head q) (map.get c.pushed q) ≡ f (map.get s.base (d ++ q)) (map.get s.head (d ++ q)) (map.get s.pushed (d ++ q))
  by_nodes f q some =
      ap (λ b. f b (map.get c.head q) (map.get c.pushed q)) (at_base q some) ∙ ap (λ h. f (map.get s.base (d ++ q)) h (map.get c.pushed q)) (at_head q some)
      ∙ ap (λ p. f (map.get s.base (d ++ q)) (map.get s.head (d ++ q)) p) (at_pushed q some)

  pub known_part : (q : PathV) → q ≢ [] → in_trees c q ≡ in_trees s (d ++ q)
  known_part q some = by_nodes (λ b h p. is_some b || (is_some h || is_some p)) q some

  pub choice_part : (q : PathV) → q ≢ [] → choice_at c q ≡ choice_at s (d ++ q)
  choice_part q some = by_nodes (λ b h p. choice (file_of b) (file_of h) (file_of p)) q some

  kept_part : (q : PathV) → q ≢ [] → kept_dir c q ≡ kept_dir s (d ++ q)
  kept_part q some = by_nodes (λ b h p. (is_dir h && is_dir p) || ((is_dir h || is_dir p) && not (is_dir b))) q some

  gets_part : (q : PathV) → q ≢ [] → gets_file c q ≡ gets_file s (d ++ q)
  gets_part q some = ap (λ (k : Choice). is_some k.main || is_some k.side) (choice_part q some)

  keeps_part : (e q : PathV) → q ≢ [] → keeps c e q ≡ keeps s (d ++ e) (d ++ q)
  keeps_part e q some =
      ap₂ (λ (k g : Bool). (is_within e q && k) || (is_under e q && g)) (kept_part q some) (gets_part q some)
      ∙ ap₂ (λ (a b : Bool). (a && kept_dir s (d ++ q)) || (b && gets_file s (d ++ q))) (sym (within_behind d e q)) (sym (under_behind d e q))

  no_root_part : in_trees c [] ≡ false
  no_root_part = ap₂ ◌||◌ (ap is_some parts.base.no_root) (ap₂ ◌||◌ (ap is_some parts.head.no_root) (ap is_some parts.pushed.no_root))

  pub some_part : (q : PathV) → in_trees c q ≡ true → q ≢ []
  some_part q known root = true≢false (sym known ∙ ap (in_trees c) root ∙ no_root_part)

  -- ---- directories survive in a part as in the whole

  -- what makes a directory of the part survive makes the whole's survive
  there_too : (e : PathV) → stays c e ≡ true → stays s (d ++ e) ≡ true
  there_too e stay =
      let found = any_at (keeps c e) (paths_of_all c) stay in
      let known : in_trees c found.path ≡ true = sym (listed c found.path) ∙ found.there in
      let some : found.path ≢ [] = some_part found.path known in
      any_keeps s (d ++ e) (d ++ found.path) (sym (known_part found.path some) ∙ known) (sym (keeps_part e found.path some) ∙ found.passes)

  -- and what makes the whole's survive below the directory makes the part's
  here_too : (e q : PathV) → q ≢ [] → in_trees s (d ++ q) ≡ true → keeps s (d ++ e) (d ++ q) ≡ true → stays c e ≡ true
  here_too e q some known passes = any_keeps c e q (known_part q some ∙ known) (keeps_part e q some ∙ passes)

  keeps_within : (e r : PathV) → keeps s e r ≡ true → is_within e r ≡ true
  keeps_within e r passes =
      elim (or_cases (is_within e r && kept_dir s r) (is_under e r && gets_file s r) passes) [
        | inl h ↦ (and_parts (is_within e r) (kept_dir s r) h).0
        | inr h ↦ under_within e r (and_parts (is_under e r) (gets_file s r) h).0
      ]

  pub stays_part : (e : PathV) → e ≢ [] → stays c e ≡ stays s (d ++ e)
  stays_part e some = one_answer (stays c e) (stays s (d ++ e)) ((λ x. x), (λ x. x)) (back, there_too e)
    where
      joined : (e r : PathV) → e ≢ [] → e ++ r ≢ []
      joined [] r some = absurd (some refl)
      joined (n ∷ e) r some = λ x. cc

      back : stays s (d ++ e) ≡ true → stays c e ≡ true
      back stay =
          let found = any_at (keeps s (d ++ e)) (paths_of_all s) stay in
          let rest = within_is (d ++ e) found.path (keeps_within (d ++ e) found.path found.passes) in
          let is : found.path ≡ d ++ (e ++ rest.0) = rest.1 ∙ append_assoc d e rest.0 in
          here_too e (e ++ rest.0) (joined e rest.0 some)
          (ap (in_trees s) (sym is) ∙ sym (listed s found.path) ∙ found.there)
          (ap (keeps s (d ++ e)) (sym is) ∙ found.passes)

  -- a directory survives by its own kind, or by what survives below it
  pub stays_by_part : stays s d ≡ (kept_dir s d || stays c [])
  stays_by_part = one_answer (stays s d) (kept_dir s d || stays c []) ((λ x. x), (λ x. x)) (back, there)
    where
      of_rest : (r rest : PathV) → in_trees s r ≡ true → keeps s d r ≡ true → r ≡ d ++ rest → (kept_dir s d || stays c []) ≡ true
      of_rest r [] known passes is =
          ap (λ b. b || stays c []) (own (subst (λ (p : PathV). keeps s d p ≡ true) (is ∙ append-nil d) passes))
        where
          no_under : (p : PathV) → is_under p p ≡ false
          no_under [] = refl
          no_under (n ∷ p) = ap (λ b. b && is_under p p) (name_itself n) ∙ no_under p

          own : keeps s d d ≡ true → kept_dir s d ≡ true
          own passes =
              elim (or_cases (is_within d d && kept_dir s d) (is_under d d && gets_file s d) passes) [
                | inl h ↦ (and_parts (is_within d d) (kept_dir s d) h).1
                | inr h ↦ absurd (true≢false (sym (and_parts (is_under d d) (gets_file s d) h).0 ∙ no_under d))
              ]
      of_rest r (n ∷ rest) known passes is =
          or_right (kept_dir s d) (stays c [])
          (here_too [] (n ∷ rest) (λ x. cc) (ap (in_trees s) (sym is) ∙ known)
          (ap (λ (e : PathV). keeps s e (d ++ n ∷ rest)) (append-nil d) ∙ ap (keeps s d) (sym is) ∙ passes))

      there : stays s d ≡ true → (kept_dir s d || stays c []) ≡ true
      there stay =
          let found = any_at (keeps s d) (paths_of_all s) stay in
          let rest = within_is d found.path (keeps_within d found.path found.passes) in
          of_rest found.path rest.0 (sym (listed s found.path) ∙ found.there) found.passes rest.1

      back : (kept_dir s d || stays c []) ≡ true → stays s d ≡ true
      back e =
          elim (or_cases (kept_dir s d) (stays c []) e) [
            | inl own ↦ stays_from s d (kept d own)
            | inr below ↦ ap (stays s) (sym (append-nil d)) ∙ there_too [] below
          ]

  pub leaver_part : (q : PathV) → q ≢ [] → leaver_at c q ≡ leaver_at s (d ++ q)
  leaver_part q some = ap₂ (λ (b : Bool) (k : Choice). option_or k.side (if b then k.main else None)) (stays_part q some) (choice_part q some)

  pub node_part : (q : PathV) → q ≢ [] → node_at c q ≡ node_at s (d ++ q)
  node_part q some = ap₂ (λ (b : Bool) (k : Choice). if b then Some Dir else option_map File k.main) (stays_part q some) (choice_part q some)

-- ---- the merge of the parts

-- a file that gets its place gets it as the main file, or beside one
gets_main : (b h p : Option FileVersion) → (is_some (choice b h p).main || is_some (choice b h p).side) ≡ true → is_some (choice b h p).main ≡ true
gets_main b h p e = by (same_file h p) (same_file h b) (same_file p b) h p e
  where
    by : (r c d : Bool) (o q : Option FileVersion) → (is_some (choice_by r c d o q).main || is_some (choice_by r c d o q).side) ≡ true → is_some (choice_by r c d o q).main ≡ true
    by true c d (Some f) q e = refl
    by true c d None q e = absurd (true≢false (sym e))
    by false true d o (Some g) e = refl
    by false true d o None e = absurd (true≢false (sym e))
    by false false true (Some f) q e = refl
    by false false true None q e = absurd (true≢false (sym e))
    by false false false None (Some g) e = refl
    by false false false None None e = absurd (true≢false (sym e))
    by false false false (Some f) None e = refl
    by false false false (Some f) (Some g) e = refl

module _ (naming : Naming) (is_naming : IsNaming naming) where
  -- a merge in which something survives below the root has a path
  pub some_merged : (c : Sides) → stays c [] ≡ true → (q : PathV) × IsSome (map.get (merged naming c) q)
  some_merged c stay =
      let found = any_at (keeps c []) (paths_of_all c) stay in
      let known : in_trees c found.path ≡ true = sym (listed c found.path) ∙ found.there in
      (found.path, ap is_some (get-merged_known naming is_naming c found.path known) ∙ stands found.path known found.passes (stays c found.path) refl)
    where
      of_file : (q : PathV) (b : Bool) → gets_file c q ≡ true → is_some (if b then Some Dir else option_map File (main_at c q)) ≡ true
      of_file q true gets = refl
      of_file q false gets = by (main_at c q) (gets_main (file_at c.base q) (file_at c.head q) (file_at c.pushed q) gets)
        where
          by : (o : Option FileVersion) → is_some o ≡ true → is_some (option_map File o) ≡ true
          by None e = cc
          by (Some f) e = refl

      stands : (q : PathV) → in_trees c q ≡ true → keeps c [] q ≡ true → (b : Bool) → stays c q ≡ b → is_some (node_at c q) ≡ true
      stands q known passes true is = ap (λ (b : Bool). is_some (if b then Some Dir else option_map File (main_at c q))) is
      stands q known passes false is =
          elim (or_cases (is_within [] q && kept_dir c q) (is_under [] q && gets_file c q) passes) [
            | inl h ↦ absurd (true≢false (sym (stays_from c q (kept q (and_parts (is_within [] q) (kept_dir c q) h).1)) ∙ is))
            | inr h ↦ of_file q (stays c q) (and_parts (is_under [] q) (gets_file c q) h).1
          ]

  module _ (s c : Sides) (d : PathV) (parts : AreParts d s c) (base : IsTree s.base) (head : IsTree s.head) (pushed : IsTree s.pushed) where
    pub region_part : IsRegion s c d (is_within d)
    region_part = record {
      rooted = none (in_trees s []) refl;
      known = λ q some is. known_part s c d parts q some;
      some = some_part s c d parts;
      within = λ q known. ap (is_within d) (parent_behind d q (some_part s c d parts q known)) ∙ within_of d (parent_of q);
      lies = λ q some is.
          let rest = within_is d (parent_of q) is in (
            rest.0 ++ last_name q ∷ [],
            pushed_is_some rest.0 (last_name q),
            parent_last q some ∙ ap (λ (e : PathV). e ++ last_name q ∷ []) rest.1 ∙ append_assoc d rest.0 (last_name q ∷ []),
          );
      leaves = λ q known. leaver_part s c d parts q (some_part s c d parts q known);
      stands = λ q known. node_part s c d parts q (some_part s c d parts q known);
    }
      where
        none : (b : Bool) → in_trees s [] ≡ b → in_trees s [] ≡ false
        none true known = absurd (not_root naming is_naming s base head pushed [] known refl)
        none false known = known

    own_path : (n : List ℕ) (r : PathV) → is_within d (parent_of (d ++ n ∷ r)) ≡ true
    own_path n r = ap (is_within d) (parent_behind d (n ∷ r) (λ e. cc)) ∙ within_of d (parent_of (n ∷ r))

    pub merges_below : MergesBelow naming d s c
    merges_below = record {
      survives = stays_by_part s c d parts;
      stay = λ n r. stays_part s c d parts (n ∷ r) (λ e. cc);
      copies = λ n r. copy_region naming is_naming s c d (is_within d) region_part (n ∷ r) (λ e. cc) (own_path n r);
      longs = λ n r.
          ap long_in (copy_region naming is_naming s c d (is_within d) region_part (n ∷ r) (λ e. cc) (own_path n r)) ∙ same_long (n ∷ r) (copy_at naming c (n ∷ r)) refl;
      nodes = λ n r. merged_region naming is_naming s c d (is_within d) region_part (n ∷ r) (λ e. cc) (own_path n r);
      nothing = none_merged;
    }
      where
        -- a copy's name is the same behind a directory
        same_long : (q : PathV) (o : Option PathV) → copy_at naming c q ≡ o → long_in (option_map (λ (p : PathV). d ++ p) o) ≡ long_in o
        same_long q None is = refl
        same_long q (Some p) is =
            ap (λ (n : List ℕ). then_some (nat_lt MAX_NAME (length n)) (length n)) (last_behind d p (copy_some naming c q p is))

        own_base : IsTree c.base
        own_base = tree_part d s.base c.base parts.base base

        own_head : IsTree c.head
        own_head = tree_part d s.head c.head parts.head head

        own_pushed : IsTree c.pushed
        own_pushed = tree_part d s.pushed c.pushed parts.pushed pushed

        none_merged : stays c [] ≡ false → (q : PathV) → map.get (merged naming c) q ≡ None
        none_merged gone [] = no_root_merged naming is_naming c own_base own_head own_pushed
        none_merged gone (n ∷ q) = nothing_under naming is_naming c own_base own_head own_pushed [] (n ∷ q) gone refl

    -- as many paths of the merged tree lie below the directory as the merge of the parts has
    pub part_len : paths_below (merged naming s) d ≡ map.len (merged naming c)
    part_len =
        listed_below (merged naming s) d (map.keys (merged naming c)) (keys_distinct (merged naming c))
        (λ r there. by_root r (map.contains_key-keys (merged naming c) r ∙ there))
        (λ n r some. sym (map.contains_key-keys (merged naming c) (n ∷ r)) ∙ ap is_some (merges_below.nodes n r) ∙ some)
        ∙ keys_len (merged naming c)
      where
        by_root : (r : PathV) → IsSome (map.get (merged naming c) r) → (r ≢ []) × IsSome (map.get (merged naming s) (d ++ r))
        by_root [] some =
            absurd (true≢false (sym some ∙ ap is_some (no_root_merged naming is_naming c (tree_part d s.base c.base parts.base base) (tree_part d s.head c.head parts.head head) (tree_part d s.pushed c.pushed parts.pushed pushed))))
        by_root (n ∷ r) some = ((λ e. cc), ap is_some (sym (merges_below.nodes n r)) ∙ some)

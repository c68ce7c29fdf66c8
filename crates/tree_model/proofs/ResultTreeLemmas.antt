-- A merge result is a tree within the limits. The key lemmas are origin, merged_is_tree and merge_fits.
use Rattle.std.proofs.Common.{◌≡◌, ◌≢◌, ℕ, ◌+◌, ◌≤◌, ◌||◌, ◌&&◌, Bool, true, false, cond, if◌then◌else◌, List, [], ◌∷◌, ◌++◌, length, find, nat_lt, refl, sym, ap, ap₂, ◌∙◌, subst, Option, Some, None, IsSome, is_some, option_map, true≢false, ◌⊎◌, inl, inr, arith, length-append, ltb-false}
use Rattle.std.specs.List.{AllByRecursion}
use Rattle.std.specs.Option.{option_or}
use Rattle.std.specs.FinMap as map
use Rattle.std.proofs.lemmas.Bool.{or_right, or_left, and_parts, or_cases}
use Rattle.ids.proofs.BasicLemmas.{pushed_is_some}
use Rattle.tree_model.specs.declared.limits.TheConstants.{MAX_PATHS, MAX_NAMES, MAX_NAME}
use Rattle.tree_model.specs.declared.node.FileVersion.{FileVersion}
use Rattle.tree_model.specs.declared.node.Node.{Node}
use Rattle.tree_model.specs.declared.node.Node.TheVariants.{Dir, File}
use Rattle.tree_model.specs.Name.{IsName}
use Rattle.tree_model.specs.Path.{PathV, IsPath, path_cmp, parent_of, last_name}
use Rattle.tree_model.specs.Tree.{Tree, IsTree, Fits, has_dir, is_dir}
use Rattle.tree_model.specs.DirectorySurvival.{Sides, main_at, side_at, gets_file, kept_dir, keeps, stays, is_within, is_under, paths_of_all}
use Rattle.tree_model.specs.ConflictCopies.{leaver_at, leavers, in_trees, Naming, conflicts, conflict_spot, tries, first_long}
use Rattle.tree_model.specs.ThreeWayMerge.{node_at, merged, IsNaming, MergedTree, TooLong, TooMany, merge, merge_by}
use Rattle.tree_model.proofs.BelowLemmas.{within_under, under_within, under_under, under_of, parent_last, parent_push, last_push, IsPath-parent}
use Rattle.tree_model.proofs.ListedLemmas.{any_at, any_of, listed}
use Rattle.tree_model.proofs.OneSideLemmas.{some_of_dir}
use Rattle.tree_model.proofs.MovingLemmas.{In, found_moved, moved_from}
use Rattle.tree_model.proofs.MergeLemmas.{copies, get-merged}
use Rattle.tree_model.proofs.CopyLemmas.{leaver_from, get-merged_known}

-- ---- where a path of the merged tree comes from

-- the path is that of a conflict copy
pub record IsCopy (naming : Naming) (s : Sides) (q : PathV) : Type 0 where
  pub of : PathV × FileVersion
  pub number : ℕ
  pub from_one : 1 ≤ number
  pub listed : In (of, q) (conflicts naming s)
  pub at : q ≡ conflict_spot naming of number
  pub known : in_trees s of.0 ≡ true
  pub gets : gets_file s of.0 ≡ true
  pub leaves : is_some (leaver_at s of.0) ≡ true

leaver_gets : (side main : Option FileVersion) (b : Bool) → is_some (option_or side (if b then main else None)) ≡ true → (is_some main || is_some side) ≡ true
leaver_gets (Some f) None b e = refl
leaver_gets (Some f) (Some g) b e = refl
leaver_gets None (Some g) b e = refl
leaver_gets None None true e = e
leaver_gets None None false e = e

pub origin : (naming : Naming) (s : Sides) (q : PathV) → IsSome (map.get (merged naming s) q) → (in_trees s q ≡ true) ⊎ IsCopy naming s q
origin naming s q there = by (in_trees s q) (map.find path_cmp q (copies naming s)) refl refl
  where
    copied : (v : Node) → map.find path_cmp q (copies naming s) ≡ Some v → IsCopy naming s q
    copied v e =
        let came = found_moved (λ (y : PathV × FileVersion). File y.1) (conflicts naming s) q v e in
        let from = moved_from (in_trees s) (conflict_spot naming) (tries s) (map.entries (leavers s)) [] came.from came.there in
        let leaves = leaver_from s came.from.0 from.of_list in
        record {
          of = came.from.0;
          number = from.number;
          from_one = from.from_one;
          listed = subst (λ (p : PathV). In (came.from.0, p) (conflicts naming s)) came.at came.there;
          at = sym came.at ∙ from.at;
          known = leaves.known;
          gets = leaver_gets (side_at s came.from.0.0) (main_at s came.from.0.0) (stays s came.from.0.0) leaves.leaves;
          leaves = leaves.leaves;
        }

    by : (b : Bool) (o : Option Node) → in_trees s q ≡ b → map.find path_cmp q (copies naming s) ≡ o → (in_trees s q ≡ true) ⊎ IsCopy naming s q
    by true o known found = inl known
    by false (Some v) known found = inr (copied v found)
    by false None known found =
        let nothing : map.get (merged naming s) q ≡ None =
        get-merged naming s q ∙ ap₂ (λ (o : Option Node) (b : Bool). option_or o (if b then node_at s q else None)) found known in
        absurd (true≢false (sym there ∙ ap is_some nothing))

-- ---- directories survive upwards

module _ (s : Sides) where
  pub any_keeps : (d r : PathV) → in_trees s r ≡ true → keeps s d r ≡ true → stays s d ≡ true
  any_keeps d r known e = any_of (keeps s d) r (paths_of_all s) (listed s r ∙ known) e

  pub stays_over_file : (d r : PathV) → in_trees s r ≡ true → is_under d r ≡ true → gets_file s r ≡ true → stays s d ≡ true
  stays_over_file d r known under gets =
      any_keeps d r known (or_right (is_within d r && kept_dir s r) (is_under d r && gets_file s r) (ap₂ ◌&&◌ under gets))

  pub stays_over_dir : (d q : PathV) → is_under d q ≡ true → stays s q ≡ true → stays s d ≡ true
  stays_over_dir d q under e =
      let found = any_at (keeps s q) (paths_of_all s) e in
      let r = found.path in
      let known : in_trees s r ≡ true = sym (listed s r) ∙ found.there in
      elim (or_cases (is_within q r && kept_dir s r) (is_under q r && gets_file s r) found.passes) [
        | inl h ↦
            let parts = and_parts (is_within q r) (kept_dir s r) h in
            let within : is_within d r ≡ true = under_within d r (within_under d q r under parts.0) in
            any_keeps d r known (ap (λ b. b || (is_under d r && gets_file s r)) (ap₂ ◌&&◌ within parts.1))
        | inr h ↦
            let parts = and_parts (is_under q r) (gets_file s r) h in
            stays_over_file d r known (under_under d q r under parts.0) parts.1
      ]

known_up : (s : Sides) → IsTree s.base → IsTree s.head → IsTree s.pushed → (d : PathV) (n : List ℕ) → d ≢ [] → in_trees s (d ++ n ∷ []) ≡ true → in_trees s d ≡ true
known_up s base head pushed d n other e = by (is_some (map.get s.base (d ++ n ∷ []))) (is_some (map.get s.head (d ++ n ∷ []))) refl refl e
  where
    up : (t : Tree) → IsTree t → is_some (map.get t (d ++ n ∷ [])) ≡ true → is_some (map.get t d) ≡ true
    up t tree there = some_of_dir (map.get t d) (tree.in_dirs d n other there)

    by : (a b : Bool) → is_some (map.get s.base (d ++ n ∷ [])) ≡ a → is_some (map.get s.head (d ++ n ∷ [])) ≡ b
        → (is_some (map.get s.base (d ++ n ∷ [])) || (is_some (map.get s.head (d ++ n ∷ [])) || is_some (map.get s.pushed (d ++ n ∷ [])))) ≡ true → in_trees s d ≡ true
    by true b in_base in_head e = or_left (is_some (map.get s.base d)) (is_some (map.get s.head d) || is_some (map.get s.pushed d)) (up s.base base in_base)
    by false true in_base in_head e =
        or_right (is_some (map.get s.base d)) (is_some (map.get s.head d) || is_some (map.get s.pushed d))
        (or_left (is_some (map.get s.head d)) (is_some (map.get s.pushed d)) (up s.head head in_head))
    by false false in_base in_head e =
        let last : is_some (map.get s.pushed (d ++ n ∷ [])) ≡ true =
        sym (ap₂ (λ (a b : Bool). a || (b || is_some (map.get s.pushed (d ++ n ∷ [])))) in_base in_head) ∙ e in
        or_right (is_some (map.get s.base d)) (is_some (map.get s.head d) || is_some (map.get s.pushed d))
        (or_right (is_some (map.get s.head d)) (is_some (map.get s.pushed d)) (up s.pushed pushed last))

-- a fact on the paths of each of the three trees
pub known_by : (s : Sides) (P : PathV → Type 0) (q : PathV) → (IsSome (map.get s.base q) → P q) → (IsSome (map.get s.head q) → P q) → (IsSome (map.get s.pushed q) → P q)
    → in_trees s q ≡ true → P q
known_by s P q of_base of_head of_pushed e = by (is_some (map.get s.base q)) (is_some (map.get s.head q)) (is_some (map.get s.pushed q)) of_base of_head of_pushed e
  where
    by : (a b c : Bool) → (a ≡ true → P q) → (b ≡ true → P q) → (c ≡ true → P q) → (a || (b || c)) ≡ true → P q
    by true b c f g h e = f refl
    by false true c f g h e = g refl
    by false false true f g h e = h refl
    by false false false f g h e = absurd (true≢false (sym e))

-- ---- the merged tree

long_none : (ms : List ((PathV × FileVersion) × PathV)) → first_long ms ≡ None → (m : (PathV × FileVersion) × PathV) → In m ms → length (last_name m.1) ≤ MAX_NAME
long_none [] e m h = absurd h
long_none (n ∷ ms) e m h = by (nat_lt MAX_NAME (length (last_name n.1))) refl e h (long_none ms)
  where
    by : (b : Bool) → nat_lt MAX_NAME (length (last_name n.1)) ≡ b
        → option_map {U = PathV × ℕ} (λ (k : (PathV × FileVersion) × PathV). (k.0.0, length (last_name k.1))) (cond b (Some n) (find (λ k. nat_lt MAX_NAME (length (last_name k.1))) ms)) ≡ None
        → In m (n ∷ ms) → (first_long ms ≡ None → (m : (PathV × FileVersion) × PathV) → In m ms → length (last_name m.1) ≤ MAX_NAME) → length (last_name m.1) ≤ MAX_NAME
    by true is e h more = cc
    by false is e (inl same) more =
        subst (λ (k : (PathV × FileVersion) × PathV). length (last_name k.1) ≤ MAX_NAME) (sym same) (ltb-false MAX_NAME (length (last_name n.1)) is)
    by false is e (inr h) more = more e m h

pub last_named : (p : PathV) → p ≢ [] → IsPath p → IsName (last_name p)
last_named p other h = last p other h.named
  where
    last : (p : PathV) → p ≢ [] → AllByRecursion IsName p → IsName (last_name p)
    last [] other h = absurd (other refl)
    last (n ∷ []) other h = h.0
    last (n ∷ m ∷ p) other h = last (m ∷ p) (λ e. cc) h.1

push_named : (p : PathV) (n : List ℕ) → IsPath p → IsName n → IsPath (p ++ n ∷ [])
push_named p n h is = record { named = push p h.named }
  where
    push : (p : PathV) → AllByRecursion IsName p → AllByRecursion IsName (p ++ n ∷ [])
    push [] h = (is, tt)
    push (m ∷ p) h = (h.0, push p h.1)

parent_long : (p : PathV) → p ≢ [] → length (parent_of p) + 1 ≡ length p
parent_long p other =
    let e : length p ≡ length (parent_of p ++ last_name p ∷ []) = ap length (parent_last p other) in
    omega (arith, length-append (parent_of p) (last_name p ∷ []))

module _ (naming : Naming) (is_naming : IsNaming naming) (s : Sides) (base : IsTree s.base) (head : IsTree s.head) (pushed : IsTree s.pushed) where
  no_root_known : in_trees s [] ≡ false
  no_root_known = ap₂ ◌||◌ (ap is_some base.no_root) (ap₂ ◌||◌ (ap is_some head.no_root) (ap is_some pushed.no_root))

  pub not_root : (q : PathV) → in_trees s q ≡ true → q ≢ []
  not_root q known e = true≢false (sym known ∙ ap (in_trees s) e ∙ no_root_known)

  dir_stands : (d : PathV) → in_trees s d ≡ true → stays s d ≡ true → has_dir (merged naming s) d ≡ true
  dir_stands d known stay =
      ap is_dir (get-merged_known naming is_naming s d known)
      ∙ ap (λ (b : Bool). is_dir (if b then Some Dir else option_map File (main_at s d))) stay

  pub no_root_merged : map.get (merged naming s) [] ≡ None
  no_root_merged = by (map.get (merged naming s) []) refl
    where
      root_is_none : (in_trees s [] ≡ true) ⊎ IsCopy naming s [] → ⊥
      root_is_none (inl known) = true≢false (sym known ∙ no_root_known)
      root_is_none (inr copy) = pushed_is_some (parent_of copy.of.0) _ (sym copy.at)

      by : (o : Option Node) → map.get (merged naming s) [] ≡ o → map.get (merged naming s) [] ≡ None
      by None e = e
      by (Some node) e = absurd (root_is_none (origin naming s [] (ap is_some e)))

  pub in_dirs_merged : (d : PathV) (n : List ℕ) → d ≢ [] → IsSome (map.get (merged naming s) (d ++ n ∷ [])) → has_dir (merged naming s) d ≡ true
  in_dirs_merged d n other there =
      elim (origin naming s (d ++ n ∷ []) there) [
        | inl known ↦
            let up : in_trees s d ≡ true = known_up s base head pushed d n other known in
            let node : is_some (node_at s (d ++ n ∷ [])) ≡ true = ap is_some (sym (get-merged_known naming is_naming s (d ++ n ∷ []) known)) ∙ there in
            dir_stands d up (above known (stays s (d ++ n ∷ [])) (main_at s (d ++ n ∷ [])) refl refl node)
        | inr copy ↦
            let p : PathV = copy.of.0 in
            let dir : d ≡ parent_of p = sym (parent_push d n) ∙ ap parent_of copy.at ∙ parent_push (parent_of p) _ in
            let path : p ≡ d ++ last_name p ∷ [] = parent_last p (not_root p copy.known) ∙ ap (λ e. e ++ last_name p ∷ []) (sym dir) in
            let known : in_trees s (d ++ last_name p ∷ []) ≡ true = ap (in_trees s) (sym path) ∙ copy.known in
            let under : is_under d p ≡ true = ap (is_under d) path ∙ under_of d (last_name p) [] in
            dir_stands d (known_up s base head pushed d (last_name p) other known) (stays_over_file s d p copy.known under copy.gets)
      ]
    where
      above : in_trees s (d ++ n ∷ []) ≡ true → (b : Bool) (o : Option FileVersion) → stays s (d ++ n ∷ []) ≡ b → main_at s (d ++ n ∷ []) ≡ o
          → is_some (if stays s (d ++ n ∷ []) then Some Dir else option_map File (main_at s (d ++ n ∷ []))) ≡ true → stays s d ≡ true
      above known true o stay main some = stays_over_dir s d (d ++ n ∷ []) (under_of d n []) stay
      above known false (Some f) stay main some =
          stays_over_file s d (d ++ n ∷ []) known (under_of d n []) (ap (λ (o : Option FileVersion). is_some o || is_some (side_at s (d ++ n ∷ []))) main)
      above known false None stay main some =
          absurd (true≢false (sym some ∙ ap₂ (λ (b : Bool) (o : Option FileVersion). is_some (if b then Some Dir else option_map File o)) stay main))

  path_known : (q : PathV) → in_trees s q ≡ true → IsPath q
  path_known q known = known_by s IsPath q (base.named q) (head.named q) (pushed.named q) known

  named_merged : first_long (conflicts naming s) ≡ None → (q : PathV) → IsSome (map.get (merged naming s) q) → IsPath q
  named_merged short q there =
      elim (origin naming s q there) [
        | inl known ↦ path_known q known
        | inr copy ↦
            let p : PathV = copy.of.0 in
            let f : FileVersion = copy.of.1 in
            let name : List ℕ = naming (last_name p) f.modifier f.mtime copy.number in
            let whole : IsPath p = path_known p copy.known in
            let few : length (last_name q) ≤ MAX_NAME = long_none (conflicts naming s) short (copy.of, q) copy.listed in
            let is : last_name q ≡ name = ap last_name copy.at ∙ last_push (parent_of p) name in
            let good : IsName name =
            is_naming.good (last_name p) f.modifier f.mtime copy.number copy.from_one (last_named p (not_root p copy.known) whole) (subst (λ (n : List ℕ). length n ≤ MAX_NAME) is few) in
            subst IsPath (sym copy.at) (push_named (parent_of p) name (IsPath-parent p whole) good)
      ]

  pub merged_is_tree : first_long (conflicts naming s) ≡ None → IsTree (merged naming s)
  merged_is_tree short = record { no_root = no_root_merged; in_dirs = in_dirs_merged; named = named_merged short }

  pub merged_depth : (top : ℕ) → ((q : PathV) → in_trees s q ≡ true → length q ≤ top) → (q : PathV) → IsSome (map.get (merged naming s) q) → length q ≤ top
  merged_depth top deep q there =
      elim (origin naming s q there) [
        | inl known ↦ deep q known
        | inr copy ↦
            let p : PathV = copy.of.0 in
            let long : length p ≤ top = deep p copy.known in
            let one : length (parent_of p) + 1 ≡ length p = parent_long p (not_root p copy.known) in
            let two : length q ≡ length (parent_of p ++ naming (last_name p) copy.of.1.modifier copy.of.1.mtime copy.number ∷ []) = ap length copy.at in
            omega (arith, length-append (parent_of p) (naming (last_name p) copy.of.1.modifier copy.of.1.mtime copy.number ∷ []))
      ]

-- ---- what a merge that isn't refused gives

pub record Merges (naming : Naming) (s : Sides) (w : Tree) : Type 0 where
  pub short : first_long (conflicts naming s) ≡ None
  pub is : merged naming s ≡ w
  pub few : map.len w ≤ MAX_PATHS

pub merges : (naming : Naming) (b h p w : Tree) → merge naming b h p ≡ MergedTree w → Merges naming (record { base = b; head = h; pushed = p }) w
merges naming b h p w e = by (first_long (conflicts naming s)) (nat_lt MAX_PATHS (map.len (merged naming s))) refl refl e
  where
    s : Sides
    s = record { base = b; head = h; pushed = p }

    by : (o : Option (PathV × ℕ)) (c : Bool) → first_long (conflicts naming s) ≡ o → nat_lt MAX_PATHS (map.len (merged naming s)) ≡ c
        → merge_by (first_long (conflicts naming s)) (merged naming s) ≡ MergedTree w → Merges naming s w
    by (Some long) c short many e =
        let told : TooLong long.0 long.1 ≡ MergedTree w = sym (ap (λ (o : Option (PathV × ℕ)). merge_by o (merged naming s)) short) ∙ e in cc
    by None true short many e =
        let told : TooMany (map.len (merged naming s)) ≡ MergedTree w =
        sym (ap (λ (o : Option (PathV × ℕ)). merge_by o (merged naming s)) short
        ∙ ap (λ (r : Bool). if r then TooMany (map.len (merged naming s)) else MergedTree (merged naming s)) many) ∙ e in cc
    by None false short many e =
        let told : MergedTree (merged naming s) ≡ MergedTree w =
        sym (ap (λ (o : Option (PathV × ℕ)). merge_by o (merged naming s)) short
        ∙ ap (λ (r : Bool). if r then TooMany (map.len (merged naming s)) else MergedTree (merged naming s)) many) ∙ e in
        let same : merged naming s ≡ w = cc in
        record { short = short; is = same; few = subst (λ (t : Tree). map.len t ≤ MAX_PATHS) same (ltb-false MAX_PATHS (map.len (merged naming s)) many) }

pub merge_fits : (naming : Naming) (b h p w : Tree) → IsNaming naming → Fits b → Fits h → Fits p → merge naming b h p ≡ MergedTree w → Fits w
merge_fits naming b h p w is_naming base head pushed e =
    let s : Sides = record { base = b; head = h; pushed = p } in
    let got = merges naming b h p w e in
    let whole : IsTree (merged naming s) = merged_is_tree naming is_naming s base.whole head.whole pushed.whole got.short in
    let deep : (q : PathV) → IsSome (map.get (merged naming s) q) → length q ≤ MAX_NAMES =
    merged_depth naming is_naming s base.whole head.whole pushed.whole MAX_NAMES (λ q known. known_by s (λ q. length q ≤ MAX_NAMES) q (base.depth q) (head.depth q) (pushed.depth q) known) in
    record {
      whole = subst IsTree got.is whole;
      count = got.few;
      depth = λ q there. deep q (subst (λ (t : Tree). IsSome (map.get t q)) (sym got.is) there);
    }

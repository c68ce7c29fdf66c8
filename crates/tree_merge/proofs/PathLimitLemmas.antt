-- How many paths a table and a merged tree have at most, and sums over tables. The key lemmas are few_of_trees, merged_len, below_len
-- and sum_of.
use Rattle.std.proofs.Common.{◌≡◌, ◌≤◌, ◌+◌, inl, inr, ℕ, suc, Bool, true, false, cond, if◌then◌else◌, length, List, [], ◌∷◌, ◌++◌, refl, sym, ap, ap₂, ◌∙◌, arith, length-append, Option, Some, None, map as map_list}
use Rattle.std.proofs.lemmas.List.{length-map}
use Rattle.std.proofs.lemmas.List.Sums.{count_by-le-length, sum_by-cons}
use Rattle.std.specs.FinMap as map
use Rattle.std.specs.List.{sum_by}
use Rattle.std.specs.Ordering.{eq_by_cmp}
use Rattle.tree_model.specs.Path.{PathV, path_cmp}
use Rattle.tree_model.specs.PathOrder.{paths_exact, paths_total}
use Rattle.tree_model.specs.ConflictCopies.{Naming, conflict_spot, conflicts, in_trees, least_free, leaver_at, leavers, moves, told as told_over, tries, with_told}
use Rattle.tree_model.specs.DirectorySurvival.{Sides, is_under, paths_of_all}
use Rattle.tree_model.specs.PathCounts.{paths_below}
use Rattle.tree_model.specs.Tree.{Tree}
use Rattle.tree_model.specs.ThreeWayMerge.{file_moved, merged, node_at}
use Rattle.tree_model.proofs.CopyLemmas.{keys_len}
use Rattle.tree_model.proofs.ListedLemmas.{get-told, is_in, listed as listed_over}
use Rattle.tree_model.proofs.MovingLemmas.{In}

-- ---- how many paths a table has at most

pub told_len : {X : Type 0} (f : PathV → Option X) (ks : List PathV) → length (told_over f ks) ≤ length ks
told_len f [] = omega arith
told_len f (k ∷ ks) = by (f k) (told_len f ks)
  where
    by : (o : Option _) → length (told_over f ks) ≤ length ks → length (with_told k o (told_over f ks)) ≤ length (k ∷ ks)
    by None few = omega (arith, few)
    by (Some x) few = omega (arith, few)

pub from_len : {X : Type 0} (es : List (PathV × X)) → map.len (map.from_entries {R = path_cmp} es) ≤ length es
from_len {X} [] = omega (arith, map.len-empty path_cmp X)
from_len {X} (e ∷ es) = by (map.contains_key (map.from_entries {R = path_cmp} es) e.0) (map.len-insert paths_total (map.from_entries {R = path_cmp} es) e.0 e.1) (from_len es)
  where
    by : (b : Bool) → map.len (map.from_entries {R = path_cmp} (e ∷ es)) ≡ cond b (map.len (map.from_entries {R = path_cmp} es)) (map.len (map.from_entries {R = path_cmp} es) + 1)
        → map.len (map.from_entries {R = path_cmp} es) ≤ length es → map.len (map.from_entries {R = path_cmp} (e ∷ es)) ≤ length (e ∷ es)
    by true is few = omega (arith, is, few)
    by false is few = omega (arith, is, few)

-- a table has no more paths than the three trees, if it has only theirs
pub few_of_trees : {X : Type 0} (m : map.FinMap path_cmp X) (s : Sides) → ((q : PathV) → in_trees s q ≡ false → map.get m q ≡ None) → map.len m ≤ length (paths_of_all s)
few_of_trees {X} m s none =
    let is : m ≡ map.from_entries (told_over (map.get m) (paths_of_all s)) =
    map.same_map paths_total paths_exact m (map.from_entries (told_over (map.get m) (paths_of_all s))) (λ q. sym (get-told (map.get m) (paths_of_all s) q ∙ by q (is_in q (paths_of_all s)) refl)) in
    let same = ap map.len is in
    let first = from_len (told_over (map.get m) (paths_of_all s)) in
    let second = told_len (map.get m) (paths_of_all s) in
    omega (arith, same, first, second)
  where
    by : (q : PathV) (b : Bool) → is_in q (paths_of_all s) ≡ b → (if b then map.get m q else None) ≡ map.get m q
    by q true is = refl
    by q false is = sym (none q (sym (listed_over s q) ∙ is))

-- ---- how many paths a merged tree has at most

moved_len : {K X : Type 0} (same : K → K → Bool) (is_used : K → Bool) (spot : X → ℕ → K) (tries : ℕ) (taken : List K) (xs : List X) → length (moves same is_used spot tries taken xs) ≡ length xs
moved_len same is_used spot tries taken [] = refl
moved_len same is_used spot tries taken (x ∷ xs) = ap suc (moved_len same is_used spot tries (spot x (least_free same is_used spot taken x tries 1) ∷ taken) xs)

pub paths_len : (s : Sides) → length (paths_of_all s) ≡ map.len s.base + map.len s.head + map.len s.pushed
paths_len s =
    let b = keys_len s.base in
    let h = keys_len s.head in
    let p = keys_len s.pushed in
    let one = length-append (map.keys s.base) (map.keys s.head) in
    let two = length-append (map.keys s.base ++ map.keys s.head) (map.keys s.pushed) in
    omega arith

-- a path of a tree, and at most one copy of it
pub merged_len : (naming : Naming) (s : Sides) → map.len (merged naming s) ≤ length (paths_of_all s) + length (paths_of_all s)
merged_len naming s =
    let all = from_len (map_list file_moved (conflicts naming s) ++ told_over (node_at s) (paths_of_all s)) in
    let both = length-append (map_list file_moved (conflicts naming s)) (told_over (node_at s) (paths_of_all s)) in
    let copies = length-map (conflicts naming s) file_moved in
    let moved : length (conflicts naming s) ≡ length (map.entries (leavers s)) = moved_len (eq_by_cmp path_cmp) (in_trees s) (conflict_spot naming) (tries s) [] (map.entries (leavers s)) in
    let own = map.len-entries (leavers s) in
    let left = from_len (told_over (leaver_at s) (paths_of_all s)) in
    let few = told_len (leaver_at s) (paths_of_all s) in
    let nodes = told_len (node_at s) (paths_of_all s) in
    omega (arith, all, both, copies, moved, own, left, few, nodes)

-- ---- sums

-- no more paths lie below a directory than the tree has
pub below_len : (t : Tree) (d : PathV) → paths_below t d ≤ map.len t
below_len t d =
    let few = count_by-le-length (is_under d) (map.keys t) in
    let size = keys_len t in
    omega (arith, few, size)

pub sum_of : {X : Type 0} (f : X → ℕ) (g : PathV → ℕ) (es : List (PathV × X)) → ((e : PathV × X) → In e es → f e.1 ≡ g e.0) → sum_by (λ e. f e.1) es ≡ sum_by g (map_list (λ e. e.0) es)
sum_of f g [] each = refl
sum_of f g (e ∷ es) each =
    sum_by-cons (λ x. f x.1) e es ∙ ap₂ (λ (a b : ℕ). a + b) (each e (inl refl)) (sum_of f g es (λ x there. each x (inr there)))
    ∙ sym (sum_by-cons g e.0 (map_list (λ x. x.0) es))

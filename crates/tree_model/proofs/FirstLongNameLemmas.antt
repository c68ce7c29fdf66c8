-- The name that is refused as too long is the first in the byte order of paths. The key lemma is first_long_is.
use Rattle.std.proofs.Common.{◌≡◌, ◌≢◌, ℕ, ◌<◌, Bool, true, false, cond, T, List, [], ◌∷◌, map as map_list, length, find, nat_lt, refl, sym, ap, ap₂, ◌∙◌, subst, arith, Option, Some, None, option_map, Ordering, Less, Equal, Greater, ltb-true, true≢false, inl, inr}
use Rattle.std.proofs.lemmas.Bool.{lt-ltb}
use Rattle.std.proofs.lemmas.List.Elements.{All-from_recursion}
use Rattle.std.specs.List.{AllByRecursion}
use Rattle.std.specs.Ordering.{is_lt}
use Rattle.std.specs.Cmp.{tied_itself}
use Rattle.std.specs.FinMap as map
use Rattle.std.specs.FinMap.Entries.{below_all}
use Rattle.tree_model.specs.declared.limits.TheConstants.{MAX_PATHS, MAX_NAME}
use Rattle.tree_model.specs.declared.node.FileVersion.{FileVersion}
use Rattle.tree_model.specs.Path.{PathV, path_cmp, last_name}
use Rattle.tree_model.specs.PathOrder.{paths_total}
use Rattle.tree_model.specs.Tree.{Tree}
use Rattle.tree_model.specs.DirectorySurvival.{Sides}
use Rattle.tree_model.specs.ConflictCopies.{Naming, conflicts, leavers, in_trees, conflict_spot, tries, moves, least_free, first_long}
use Rattle.tree_model.specs.ThreeWayMerge.{merge, merge_by, merged, TooLong, TooMany, MergedTree, IsFirstLong}
use Rattle.tree_model.proofs.ListedLemmas.{same_path}
use Rattle.tree_model.proofs.MovingLemmas.{In}
use Rattle.tree_model.proofs.CopyLemmas.{contains_in}
use Rattle.tree_model.proofs.SortedEntryLemmas.{left_holds, right_holds}
use Rattle.ids.proofs.BasicLemmas.{less_from_is_lt}

-- what moves keeps its order
pub moved_things : {X : Type 0} (is_used : PathV → Bool) (spot : X → ℕ → PathV) (t : ℕ) (xs : List X) (taken : List PathV)
    → map_list (λ (m : X × PathV). m.0) (moves same_path is_used spot t taken xs) ≡ xs
moved_things is_used spot t [] taken = refl
moved_things is_used spot t (x ∷ xs) taken =
    ap (λ (ys : List _). x ∷ ys) (moved_things is_used spot t xs (spot x (least_free same_path is_used spot taken x t 1) ∷ taken))

abbrev pub Copy : Type 0
Copy = (PathV × FileVersion) × PathV

abbrev long_name : Copy → Bool
long_name m = nat_lt MAX_NAME (length (last_name m.1))

-- the first of a list that is too long, with what stands of the others
pub record Found (ms : List Copy) (path : PathV) (bytes : ℕ) : Type 0 where
  pub copy : Copy
  pub there : In copy ms
  pub of : copy.0.0 ≡ path
  pub size : length (last_name copy.1) ≡ bytes
  pub long : MAX_NAME < bytes
  pub first : AllByRecursion (λ (m : Copy). MAX_NAME < length (last_name m.1) → path_cmp path m.0.0 ≢ Greater) ms

not_above : (r : Ordering) → r ≡ Less → r ≢ Greater
not_above r e h = let both : Less ≡ Greater = sym e ∙ h in cc

not_above_itself : (p : PathV) → path_cmp p p ≢ Greater
not_above_itself p h = let both : Equal ≡ Greater = sym (tied_itself paths_total p) ∙ h in cc

all_above : (p : PathV) (ms : List Copy) → T (below_all path_cmp p (map_list (λ (m : Copy). m.0) ms))
    → AllByRecursion (λ (m : Copy). MAX_NAME < length (last_name m.1) → path_cmp p m.0.0 ≢ Greater) ms
all_above p [] h = tt
all_above p (m ∷ ms) h = (
  (λ long. not_above (path_cmp p m.0.0) (less_from_is_lt (path_cmp p m.0.0) (left_holds (is_lt (path_cmp p m.0.0)) (below_all path_cmp p (map_list (λ (m : Copy). m.0) ms)) h))),
  all_above p ms (right_holds (is_lt (path_cmp p m.0.0)) (below_all path_cmp p (map_list (λ (m : Copy). m.0) ms)) h),
)

some_same : (x y : PathV × ℕ) → Some x ≡ Some y → x ≡ y
some_same x y e = cc

pub found_first : (ms : List Copy) (path : PathV) (bytes : ℕ) → T (map.is_sorted path_cmp (map_list (λ (m : Copy). m.0) ms)) → first_long ms ≡ Some (path, bytes) → Found ms path bytes
found_first [] path bytes h e = cc
found_first (m ∷ ms) path bytes h e = by (long_name m) refl e (found_first ms path bytes (right_holds (below_all path_cmp m.0.0 things) (map.is_sorted path_cmp things) h))
  where
    things : List (PathV × FileVersion)
    things = map_list (λ (m : Copy). m.0) ms

    by : (b : Bool) → long_name m ≡ b
        → option_map {U = PathV × ℕ} (λ (k : Copy). (k.0.0, length (last_name k.1))) (cond b (Some m) (find long_name ms)) ≡ Some (path, bytes)
        → (first_long ms ≡ Some (path, bytes) → Found ms path bytes) → Found (m ∷ ms) path bytes
    by true is e more =
        let here : PathV × ℕ = (m.0.0, length (last_name m.1)) in
        let there : PathV × ℕ = (path, bytes) in
        let both : here ≡ there = some_same here there e in
        let of : m.0.0 ≡ path = ap (λ (q : PathV × ℕ). q.0) both in
        let size : length (last_name m.1) ≡ bytes = ap (λ (q : PathV × ℕ). q.1) both in
        let above : MAX_NAME < length (last_name m.1) = ltb-true MAX_NAME (length (last_name m.1)) is in
        record {
          copy = m;
          there = inl refl;
          of = of;
          size = size;
          long = omega arith;
          first = subst (λ (p : PathV). AllByRecursion (λ (k : Copy). MAX_NAME < length (last_name k.1) → path_cmp p k.0.0 ≢ Greater) (m ∷ ms)) of
              ((λ long. not_above_itself m.0.0), all_above m.0.0 ms (left_holds (below_all path_cmp m.0.0 things) (map.is_sorted path_cmp things) h));
        }
    by false is e more =
        let found = more e in
        record {
          copy = found.copy;
          there = inr found.there;
          of = found.of;
          size = found.size;
          long = found.long;
          first = ((λ long. absurd (true≢false (sym (lt-ltb MAX_NAME (length (last_name m.1)) long) ∙ is))), found.first);
        }

abbrev some_pair : PathV → ℕ → Option (PathV × ℕ)
some_pair p n = Some (p, n)

long_told : (o : Option (PathV × ℕ)) (t : Tree) (path : PathV) (bytes : ℕ) → merge_by o t ≡ TooLong path bytes → o ≡ some_pair path bytes
long_told (Some long) t path bytes e =
    let of : long.0 ≡ path = cc in
    let size : long.1 ≡ bytes = cc in
    ap₂ (λ (p : PathV) (n : ℕ). some_pair p n) of size
long_told None t path bytes e = by (nat_lt MAX_PATHS (map.len t)) e
  where
    by : (b : Bool) → cond b (TooMany (map.len t)) (MergedTree t) ≡ TooLong path bytes → None ≡ some_pair path bytes
    by true e = cc
    by false e = cc

pub first_long_is : (naming : Naming) (b h p : Tree) (path : PathV) (bytes : ℕ) → merge naming b h p ≡ TooLong path bytes
    → IsFirstLong naming (record { base = b; head = h; pushed = p }) path bytes
first_long_is naming b h p path bytes e =
    let s : Sides = record { base = b; head = h; pushed = p } in
    let things : map_list (λ (m : Copy). m.0) (conflicts naming s) ≡ map.entries (leavers s) =
    moved_things (in_trees s) (conflict_spot naming) (tries s) (map.entries (leavers s)) [] in
    let sorted : T (map.is_sorted path_cmp (map_list (λ (m : Copy). m.0) (conflicts naming s))) =
    subst (λ (es : List (PathV × FileVersion)). T (map.is_sorted path_cmp es)) (sym things) (map.entries_sorted (leavers s)) in
    let found : Found (conflicts naming s) path bytes =
    found_first (conflicts naming s) path bytes sorted (long_told (first_long (conflicts naming s)) (merged naming s) path bytes e) in
    record {
      copy = found.copy;
      listed = contains_in found.copy (conflicts naming s) found.there;
      of = found.of;
      size = found.size;
      long = found.long;
      first = All-from_recursion (λ (other : Copy). MAX_NAME < length (last_name other.1) → path_cmp path other.0.0 ≢ Greater) (conflicts naming s) found.first;
    }

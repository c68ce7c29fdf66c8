-- What is listed below a complete directory. The key lemmas are complete_at, nothing_listed, some_listed and in_table.
use Rattle.std.proofs.Common.{◌≡◌, ◌≢◌, ℕ, suc, length, ◌||◌, Bool, true, false, cond, List, [], ◌∷◌, refl, sym, ap, ◌∙◌, subst, arith, Option, Some, None, is_some, IsSome, option_and_then, true≢false, map as list_map}
use Rattle.std.specs.FinMap as map
use Rattle.std.specs.List.{AllByRecursion}
use Rattle.ids.specs.Key.{Objects}
use Rattle.tree_model.specs.Path.{PathV, path_cmp}
use Rattle.tree_model.specs.PathOrder.{paths_total}
use Rattle.tree_model.proofs.ListedLemmas.{is_in, same_path, same_path-apart, same_path-true}
use Rattle.tree_model.proofs.ShownCountLemmas.{AreDistinctPaths}
use Rattle.object_graph.specs.Listing.{Listed, listed}
use Rattle.object_graph.specs.Objects.{directory_in, dirents_at, entry_below, entry_named}
use Rattle.object_graph.specs.Traversal.{IsCompleteRoot}
use Rattle.object_graph.proofs.ListingLemmas.{table_entries}
use Rattle.tree_merge.specs.TreeBuilding.{directory_id_in}
use Rattle.tree_merge.proofs.ListedPathLemmas.{Distinct, Item, StandsBelow, lists_below}
use Rattle.tree_merge.proofs.WholeSideLemmas.{child_complete}

-- the directory at a path below a complete root is complete as a root
pub complete_at : (objects : Objects) (root : List ℕ) → IsCompleteRoot objects root → (q : PathV) (id : List ℕ) → directory_id_in objects (dirents_at objects root) q ≡ Some id → IsCompleteRoot objects id
complete_at objects root complete [] id is = cc is
complete_at objects root complete (n ∷ []) id is = child_complete objects root complete n id is
complete_at objects root complete (n ∷ m ∷ q) id is =
    by (directory_in (entry_named n (dirents_at objects root))) refl is (λ child whole there. complete_at objects child whole (m ∷ q) id there)
  where
    by : (o : Option (List ℕ)) → directory_in (entry_named n (dirents_at objects root)) ≡ o → option_and_then (λ i. directory_id_in objects (dirents_at objects i) (m ∷ q)) o ≡ Some id
        → ((child : List ℕ) → IsCompleteRoot objects child → directory_id_in objects (dirents_at objects child) (m ∷ q) ≡ Some id → IsCompleteRoot objects id) → IsCompleteRoot objects id
    by None found there rest = cc there
    by (Some child) found there rest = rest child (child_complete objects root complete n child found) there

-- a complete directory of which nothing is listed has nothing below it
pub nothing_listed : (objects : Objects) (id : List ℕ) → IsCompleteRoot objects id → length (listed objects 100 id) ≡ 0 → (q : PathV) → entry_below objects q id ≡ None
nothing_listed objects id complete none q = sym (table_entries true objects id complete q) ∙ by (listed objects 100 id) none
  where
    by : (xs : Listed) → length xs ≡ 0 → map.get (map.from_entries {R = path_cmp} xs) q ≡ None
    by [] is = map.get-empty path_cmp q
    by (x ∷ xs) is = absurd (omega (arith, is))

-- of which something is listed has something below it
pub some_listed : (objects : Objects) (id : List ℕ) (n : ℕ) → length (listed objects 100 id) ≡ suc n → ((m : List ℕ) (q : PathV) → entry_below objects (m ∷ q) id ≡ None) → ⊥
some_listed objects id n some none = by (listed objects 100 id) some (lists_below objects 100 id).all
  where
    at : (q : PathV) → q ≢ [] → IsSome (entry_below objects q id) → ⊥
    at [] other there = other refl
    at (m ∷ q) other there = true≢false (sym there ∙ ap is_some (none m q))

    by : (xs : Listed) → length xs ≡ suc n → AllByRecursion (StandsBelow objects id) xs → ⊥
    by [] is all = absurd (omega (arith, is))
    by (x ∷ xs) is all = at x.0 all.0.other all.0.there

-- ---- the paths of what is listed

-- the paths of a list of what stands below a directory
abbrev pub paths_listed : Listed → List PathV
paths_listed xs = list_map (λ (y : Item). y.0) xs

apart_paths : (p : PathV) (xs : Listed) → AllByRecursion (λ (y : Item). y.0 ≢ p) xs → AllByRecursion (λ (q : PathV). same_path q p ≡ false) (paths_listed xs)
apart_paths p [] all = tt
apart_paths p (x ∷ xs) all = (same_path-apart x.0 p all.0, apart_paths p xs all.1)

pub distinct_paths : (xs : Listed) → Distinct xs → AreDistinctPaths (paths_listed xs)
distinct_paths [] distinct = tt
distinct_paths (x ∷ xs) distinct = (apart_paths x.0 xs distinct.0, distinct_paths xs distinct.1)

pub in_all : (P : PathV → Type 0) (xs : Listed) → AllByRecursion (λ (y : Item). P y.0) xs → (q : PathV) → is_in q (paths_listed xs) ≡ true → P q
in_all P [] all q there = cc there
in_all P (x ∷ xs) all q there = by (same_path q x.0) refl there (in_all P xs all.1 q)
  where
    by : (b : Bool) → same_path q x.0 ≡ b → (b || is_in q (paths_listed xs)) ≡ true → (is_in q (paths_listed xs) ≡ true → P q) → P q
    by true e found more = subst P (sym (same_path-true q x.0 e)) all.0
    by false e found more = more found

pub in_table : (xs : Listed) (q : PathV) → IsSome (map.get (map.from_entries {R = path_cmp} xs) q) → is_in q (paths_listed xs) ≡ true
in_table [] q some = absurd (true≢false (sym some ∙ ap is_some (map.get-empty path_cmp q)))
in_table (x ∷ xs) q some =
    by (same_path q x.0) (ap is_some (sym (map.get-insert paths_total (map.from_entries {R = path_cmp} xs) x.0 x.1 q)) ∙ some) (in_table xs q)
  where
    by : (b : Bool) → is_some (cond b (Some x.1) (map.get (map.from_entries {R = path_cmp} xs) q)) ≡ true
        → (IsSome (map.get (map.from_entries {R = path_cmp} xs) q) → is_in q (paths_listed xs) ≡ true) → (b || is_in q (paths_listed xs)) ≡ true
    by true found more = refl
    by false found more = more found

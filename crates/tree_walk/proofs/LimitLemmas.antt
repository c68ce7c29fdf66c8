-- The limits of what is listed. The key lemmas are found_more and within_limits.
use Rattle.std.proofs.Common.{◌≡◌, ◌≢◌, ◌≤◌, ◌<◌, ◌+◌, ℕ, suc, Bool, true, false, cond, is_some, List, [], ◌∷◌, ◌++◌, length, refl, sym, ap, ◌∙◌, subst, Some, arith, length-append}
use Rattle.std.specs.Cmp.{Equal-is}
use Rattle.std.specs.FinMap as map
use Rattle.std.specs.List.{AllByRecursion}
use Rattle.std.specs.Ordering.{eq_by_cmp}
use Rattle.tree_model.specs.Path.{PathV, IsPath, path_cmp}
use Rattle.tree_model.specs.PathOrder.{paths_total, paths_exact}
use Rattle.object_graph.specs.Listing.{Listed}
use Rattle.object_graph.specs.declared.entry.Entry.{Entry}
use Rattle.tree_walk.specs.Limits.{AreFound, IsEntryPath, IsWithinLimits}
use Rattle.ids.proofs.BasicLemmas.{pushed_is_some}

-- ---- one entry more

entry_path : (path own : PathV) (name : List ℕ) → length path < 100 → own ≡ path ++ name ∷ [] → IsPath own → IsEntryPath own
entry_path path own name fits is named = record {
  some = λ none. pushed_is_some path name (sym is ∙ none);
  named = named;
  bound = omega (arith, ap length is, length-append path (name ∷ []));
}

all_more : (found : Listed) (x : PathV × Entry) → AllByRecursion (λ (y : PathV × Entry). IsEntryPath y.0) found → IsEntryPath x.0 → AllByRecursion (λ (y : PathV × Entry). IsEntryPath y.0) (found ++ x ∷ [])
all_more [] x all is = (is, tt)
all_more (y ∷ found) x all is = (all.0, all_more found x all.1 is)

pub found_more : (found : Listed) (path own : PathV) (name : List ℕ) (entry : Entry) → AreFound found → length found < 1000000 → length path < 100 → own ≡ path ++ name ∷ [] → IsPath own
    → AreFound (found ++ (own, entry) ∷ [])
found_more found path own name entry are few fits is named = record {
  few = omega (arith, length-append found ((own, entry) ∷ []));
  paths = all_more found (own, entry) are.paths (entry_path path own name fits is named);
}

pub found_none : (found : Listed) → found ≡ [] → AreFound found
found_none found none = subst AreFound (sym none) (record { few = omega arith; paths = tt })

-- ---- the table of what was found

len_listed : (found : Listed) → map.len (map.from_entries {R = path_cmp} found) ≤ length found
len_listed [] = subst (λ n. n ≤ 0) (sym (map.len-empty path_cmp Entry)) (omega arith)
len_listed (x ∷ found) =
    let rest : map.FinMap path_cmp Entry = map.from_entries found in
    by (map.contains_key rest x.0) (map.len rest) (length found) (map.len (map.insert rest x.0 x.1)) (map.len-insert paths_total rest x.0 x.1) (len_listed found)
  where
    by : (b : Bool) (m n k : ℕ) → k ≡ cond b m (m + 1) → m ≤ n → k ≤ suc n
    by true m n k is less = omega (arith, is)
    by false m n k is less = omega (arith, is)

path_in : (found : Listed) (path : PathV) → AllByRecursion (λ (y : PathV × Entry). IsEntryPath y.0) found → is_some (map.get (map.from_entries {R = path_cmp} found) path) ≡ true → IsEntryPath path
path_in [] path all there = nothing (ap is_some (sym (map.get-empty path_cmp path)) ∙ there)
  where
    nothing : false ≡ true → IsEntryPath path
    nothing e = cc
path_in (x ∷ found) path all there =
    by (eq_by_cmp path_cmp path x.0) refl (path_in found path all.1) (ap is_some (sym (map.get-insert paths_total (map.from_entries {R = path_cmp} found) x.0 x.1 path)) ∙ there)
  where
    by : (b : Bool) → eq_by_cmp path_cmp path x.0 ≡ b → (is_some (map.get (map.from_entries {R = path_cmp} found) path) ≡ true → IsEntryPath path)
        → is_some (cond b (Some x.1) (map.get (map.from_entries {R = path_cmp} found) path)) ≡ true → IsEntryPath path
    by true same rest is = subst IsEntryPath (sym (paths_exact path x.0 ((Equal-is (path_cmp path x.0)).0 same))) all.0
    by false other rest is = rest is

pub within_limits : (found : Listed) → AreFound found → IsWithinLimits (map.from_entries found)
within_limits found are = record {
  few = omega (arith, len_listed found, are.few);
  paths = λ path there. path_in found path are.paths there;
}

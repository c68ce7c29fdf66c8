-- Paths behind a directory. The key lemmas are cmp_behind, within_behind, parent_behind, spot_behind and found_behind.
use Rattle.std.proofs.Common.{◌≡◌, ◌≢◌, ℕ, ◌&&◌, ◌||◌, Bool, true, cond, List, [], ◌∷◌, ◌++◌, map as map_list, refl, sym, ap, ap₂, ◌∙◌, append_assoc, Option, Some, Ordering}
use Rattle.std.specs.Cmp.{tied_itself}
use Rattle.std.specs.Cmp.Lexicographic.{slice_cmp, nat_list_cmp_total}
use Rattle.std.specs.FinMap as map
use Rattle.std.specs.FinMap.Entries.{below_all}
use Rattle.std.specs.List.{AllByRecursion}
use Rattle.std.specs.Ordering.{is_lt, nat_cmp, ordering_then}
use Rattle.tree_model.specs.declared.node.FileVersion.{FileVersion}
use Rattle.tree_model.specs.Name.{IsName}
use Rattle.tree_model.specs.Path.{PathV, IsPath, has_more, last_name, parent_of, path_cmp, slashed}
use Rattle.tree_model.specs.DirectorySurvival.{is_under, is_within}
use Rattle.tree_model.specs.ConflictCopies.{Naming, conflict_spot}
use Rattle.tree_model.specs.MergeParts.{beyond}
use Rattle.tree_model.proofs.BelowLemmas.{last_push, name_itself, parent_last, parent_push}
use Rattle.tree_model.proofs.ListedLemmas.{is_in}
use Rattle.tree_model.proofs.ShownCountLemmas.{same_behind}

-- ---- order and kinship

pub within_behind : (d e q : PathV) → is_within (d ++ e) (d ++ q) ≡ is_within e q
within_behind [] e q = refl
within_behind (n ∷ d) e q = ap (λ (b : Bool). b && is_within (d ++ e) (d ++ q)) (name_itself n) ∙ within_behind d e q

pub under_behind : (d e q : PathV) → is_under (d ++ e) (d ++ q) ≡ is_under e q
under_behind [] e q = refl
under_behind (n ∷ d) e q = ap (λ (b : Bool). b && is_under (d ++ e) (d ++ q)) (name_itself n) ∙ under_behind d e q

pub some_behind : (d q : PathV) → q ≢ [] → d ++ q ≢ []
some_behind [] q some e = some e
some_behind (n ∷ d) q some e = cc

more_behind : (d q : PathV) → q ≢ [] → has_more (d ++ q) ≡ true
more_behind [] [] some = absurd (some refl)
more_behind [] (n ∷ q) some = refl
more_behind (n ∷ d) q some = refl

-- two paths stand behind a directory as they stand without it
pub cmp_behind : (d p q : PathV) → p ≢ [] → q ≢ [] → path_cmp (d ++ p) (d ++ q) ≡ path_cmp p q
cmp_behind [] p q some also = refl
cmp_behind (n ∷ d) p q some also =
    ap₂ (λ (x y : Bool). ordering_then (slice_cmp nat_cmp (slashed n x) (slashed n y)) (path_cmp (d ++ p) (d ++ q))) (more_behind d p some) (more_behind d q also)
    ∙ ap (λ (r : Ordering). ordering_then r (path_cmp (d ++ p) (d ++ q))) (tied_itself nat_list_cmp_total (slashed n true))
    ∙ cmp_behind d p q some also

pub parent_behind : (d p : PathV) → p ≢ [] → parent_of (d ++ p) ≡ d ++ parent_of p
parent_behind d p some =
    ap (λ (q : PathV). parent_of (d ++ q)) (parent_last p some)
    ∙ ap parent_of (sym (append_assoc d (parent_of p) (last_name p ∷ [])))
    ∙ parent_push (d ++ parent_of p) (last_name p)

pub last_behind : (d p : PathV) → p ≢ [] → last_name (d ++ p) ≡ last_name p
last_behind d p some =
    ap (λ (q : PathV). last_name (d ++ q)) (parent_last p some)
    ∙ ap last_name (sym (append_assoc d (parent_of p) (last_name p ∷ [])))
    ∙ last_push (d ++ parent_of p) (last_name p)

-- the names of a path are good, so those behind a directory are
pub IsPath-behind : (d q : PathV) → IsPath (d ++ q) → IsPath q
IsPath-behind d q good = record { named = drop d good.named }
  where
    drop : (d : PathV) → AllByRecursion IsName (d ++ q) → AllByRecursion IsName q
    drop [] all = all
    drop (n ∷ d) all = drop d all.1

pub beyond_behind : (d q : PathV) → beyond d (d ++ q) ≡ q
beyond_behind [] q = refl
beyond_behind (n ∷ d) q = beyond_behind d q

-- ---- lists of paths

abbrev pub behind : PathV → List PathV → List PathV
behind d qs = map_list (λ (q : PathV). d ++ q) qs

pub in_behind : (d q : PathV) (qs : List PathV) → is_in (d ++ q) (behind d qs) ≡ is_in q qs
in_behind d q [] = refl
in_behind d q (r ∷ qs) = ap₂ (λ (a b : Bool). a || b) (same_behind d q r) (in_behind d q qs)

-- entries, each with its path behind a directory
abbrev pub keyed_behind : {X : Type 0} → PathV → List (PathV × X) → List (PathV × X)
keyed_behind d es = map_list (λ e. (d ++ e.0, e.1)) es

pub found_behind : {X : Type 0} (d q : PathV) (es : List (PathV × X)) → map.find path_cmp (d ++ q) (keyed_behind d es) ≡ map.find path_cmp q es
found_behind d q [] = refl
found_behind {X} d q (e ∷ es) = ap₂ (λ (b : Bool) (o : Option X). cond b (Some e.1) o) (same_behind d q e.0) (found_behind d q es)

module _ {X : Type 0} (d : PathV) where
  below_behind : (p : PathV) (es : List (PathV × X)) → p ≢ [] → AllByRecursion (λ (e : PathV × X). e.0 ≢ []) es → below_all path_cmp (d ++ p) (keyed_behind d es) ≡ below_all path_cmp p es
  below_behind p [] some all = refl
  below_behind p (e ∷ es) some all = ap₂ (λ (r : Ordering) (b : Bool). is_lt r && b) (cmp_behind d p e.0 some all.0) (below_behind p es some all.1)

  pub sorted_behind : (es : List (PathV × X)) → AllByRecursion (λ (e : PathV × X). e.0 ≢ []) es → map.is_sorted path_cmp (keyed_behind d es) ≡ map.is_sorted path_cmp es
  sorted_behind [] all = refl
  sorted_behind (e ∷ es) all = ap₂ (λ (a b : Bool). a && b) (below_behind e.0 es all.0 all.1) (sorted_behind es all.1)

-- ---- places of copies

-- a file, behind a directory
abbrev pub file_behind : PathV → PathV × FileVersion → PathV × FileVersion
file_behind d x = (d ++ x.0, x.1)

pub spot_behind : (naming : Naming) (d : PathV) (x : PathV × FileVersion) (k : ℕ) → x.0 ≢ [] → conflict_spot naming (file_behind d x) k ≡ d ++ conflict_spot naming x k
spot_behind naming d x k some =
    ap₂ (λ (e : PathV) (n : List ℕ). e ++ naming n x.1.modifier x.1.mtime k ∷ []) (parent_behind d x.0 some) (last_behind d x.0 some)
    ∙ append_assoc d (parent_of x.0) (naming (last_name x.0) x.1.modifier x.1.mtime k ∷ [])

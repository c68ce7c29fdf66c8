-- Paths in a list, by a test. The key lemmas are any_at, any_of, listed, get-told and leavers_get.
use Rattle.std.proofs.Common.{◌≡◌, ◌≢◌, ◌||◌, Bool, true, false, if◌then◌else◌, List, [], ◌∷◌, ◌++◌, refl, sym, ap, ap₂, ◌∙◌, Option, Some, None}
use Rattle.std.specs.List.{list_any}
use Rattle.std.specs.Option.{option_or}
use Rattle.std.specs.Ordering.{eq_by_cmp, is_eq}
use Rattle.std.specs.Cmp.{tied_itself, Equal-is}
use Rattle.std.specs.FinMap as map
use Rattle.std.proofs.lemmas.Bool.{or_right}
use Rattle.std.proofs.Math.Bool.{or_assoc}
use Rattle.tree_model.specs.Path.{PathV, path_cmp}
use Rattle.tree_model.specs.PathOrder.{paths_total, paths_exact}
use Rattle.tree_model.specs.DirectorySurvival.{Sides, paths_of_all}
use Rattle.tree_model.specs.ConflictCopies.{told, with_told, in_trees}

-- whether two paths are one
abbrev pub same_path : PathV → PathV → Bool
same_path = eq_by_cmp path_cmp

pub same_path-true : (p q : PathV) → same_path p q ≡ true → p ≡ q
same_path-true p q e = paths_exact p q ((Equal-is (path_cmp p q)).0 e)

pub same_path-itself : (p : PathV) → same_path p p ≡ true
same_path-itself p = ap is_eq (tied_itself paths_total p)

pub same_path-apart : (p q : PathV) → p ≢ q → same_path p q ≡ false
same_path-apart p q apart = by (same_path p q) refl
  where
    by : (b : Bool) → same_path p q ≡ b → same_path p q ≡ false
    by true e = absurd (apart (same_path-true p q e))
    by false e = e

-- whether a path is in a list
abbrev pub is_in : PathV → List PathV → Bool
is_in q ps = list_any (same_path q) ps

pub any_append : {X : Type 0} (p : X → Bool) (xs ys : List X) → list_any p (xs ++ ys) ≡ (list_any p xs || list_any p ys)
any_append p [] ys = refl
any_append p (x ∷ xs) ys = ap (λ b. p x || b) (any_append p xs ys) ∙ sym (or_assoc (p x) (list_any p xs) (list_any p ys))

pub record IsFound (p : PathV → Bool) (qs : List PathV) : Type 0 where
  pub path : PathV
  pub there : is_in path qs ≡ true
  pub passes : p path ≡ true

-- what passes is in the list
pub any_at : (p : PathV → Bool) (qs : List PathV) → list_any p qs ≡ true → IsFound p qs
any_at p [] e = cc
any_at p (q ∷ qs) e = by (p q) refl e (any_at p qs)
  where
    by : (b : Bool) → p q ≡ b → (b || list_any p qs) ≡ true → (list_any p qs ≡ true → IsFound p qs) → IsFound p (q ∷ qs)
    by true is e more = record { path = q; there = ap (λ b. b || is_in q qs) (same_path-itself q); passes = is }
    by false is e more =
        let found = more e in
        record { path = found.path; there = or_right (same_path found.path q) (is_in found.path qs) found.there; passes = found.passes }

-- and what is in the list and passes makes the test pass
pub any_of : (p : PathV → Bool) (q : PathV) (qs : List PathV) → is_in q qs ≡ true → p q ≡ true → list_any p qs ≡ true
any_of p q [] e passes = cc
any_of p q (r ∷ qs) e passes = by (same_path q r) refl e (any_of p q qs)
  where
    by : (b : Bool) → same_path q r ≡ b → (b || is_in q qs) ≡ true → (is_in q qs ≡ true → p q ≡ true → list_any p qs ≡ true) → (p r || list_any p qs) ≡ true
    by true is e more = ap (λ b. b || list_any p qs) (ap p (sym (same_path-true q r is)) ∙ passes)
    by false is e more = or_right (p r) (list_any p qs) (more e passes)

pub listed : (s : Sides) (q : PathV) → is_in q (paths_of_all s) ≡ in_trees s q
listed s q =
    any_append (same_path q) (map.keys s.base ++ map.keys s.head) (map.keys s.pushed)
    ∙ ap (λ b. b || is_in q (map.keys s.pushed)) (any_append (same_path q) (map.keys s.base) (map.keys s.head))
    ∙ regrouped (is_in q (map.keys s.base)) (is_in q (map.keys s.head)) (is_in q (map.keys s.pushed))
    ∙ ap₂ ◌||◌ (sym (map.contains_key-keys s.base q)) (ap₂ ◌||◌ (sym (map.contains_key-keys s.head q)) (sym (map.contains_key-keys s.pushed q)))
  where
    regrouped : (a b c : Bool) → ((a || b) || c) ≡ (a || (b || c))
    regrouped true b c = refl
    regrouped false b c = refl

told_one : {X : Type 0} (q k : PathV) (o : Option X) (es : List (PathV × X))
    → map.find path_cmp q (with_told k o es) ≡ (if same_path q k then option_or o (map.find path_cmp q es) else map.find path_cmp q es)
told_one q k None es = by (same_path q k) (map.find path_cmp q es)
  where
    by : {Y : Type 0} (b : Bool) (y : Y) → y ≡ (if b then y else y)
    by true y = refl
    by false y = refl
told_one q k (Some x) es = refl

told_twice : {X : Type 0} (o : Option X) (b : Bool) → option_or o (if b then o else None) ≡ o
told_twice None true = refl
told_twice None false = refl
told_twice (Some x) b = refl

-- a map told over a list has f's answers at the paths of the list
pub find-told : {X : Type 0} (f : PathV → Option X) (ks : List PathV) (q : PathV) → map.find path_cmp q (told f ks) ≡ (if is_in q ks then f q else None)
find-told f [] q = refl
find-told {X = X} f (k ∷ ks) q = told_one q k (f k) (told f ks) ∙ step (same_path q k) refl (find-told f ks q)
  where
    rest : Option X
    rest = map.find path_cmp q (told f ks)

    step : (b : Bool) → same_path q k ≡ b → rest ≡ (if is_in q ks then f q else None) → (if b then option_or (f k) rest else rest) ≡ (if b || is_in q ks then f q else None)
    step true is e =
        let same : k ≡ q = sym (same_path-true q k is) in
        ap₂ (λ (o r : Option X). option_or o r) (ap f same) e ∙ told_twice (f q) (is_in q ks)
    step false is e = e

pub get-told : {X : Type 0} (f : PathV → Option X) (ks : List PathV) (q : PathV)
    → map.get (map.from_entries {R = path_cmp} (told f ks)) q ≡ (if is_in q ks then f q else None)
get-told f ks q = map.get-from_entries paths_total (told f ks) q ∙ find-told f ks q

-- Ids, keys and tests in lists. The key lemmas are any_found, in_all and kept_append.
use Rattle.std.proofs.Common.{◌≡◌, ◌||◌, inl, inr, ℕ, Bool, true, false, List, [], ◌∷◌, ◌++◌, refl, sym, ap, ◌∙◌, subst, true≢false}
use Rattle.std.specs.Cmp.Lexicographic.{bytes_decides}
use Rattle.std.specs.FinSet as set
use Rattle.std.specs.List.{list_any}
use Rattle.ids.specs.Key.{key_cmp}
use Rattle.ids.specs.declared.key.Key.{Key}
use Rattle.ids.proofs.KeyOrderLemmas.{key_cmp_total}
use Rattle.library_state.specs.declared.history.Install.{Install}
use Rattle.object_graph.specs.Objects.{same_id}
use Rattle.object_graph.specs.Traversal.{is_in}
use Rattle.object_graph.proofs.KeyLemmas.{same_key}
use Rattle.library_rules.specs.Changes.{add_all}
use Rattle.library_rules.specs.LibraryState.{kept_commits, is_kept}
use Rattle.std.proofs.lemmas.Bool.{or_cases, or_left, or_right}
use Rattle.std.proofs.lemmas.List.Folds.{list_any-append}

pub same_id-true : (a b : List ℕ) → same_id a b ≡ true → a ≡ b
same_id-true a b e = (bytes_decides a b).0 e

pub same_id-itself : (a : List ℕ) → same_id a a ≡ true
same_id-itself a = (bytes_decides a a).1 refl

-- ---- tests

-- a test that passes, and fails
pub apart : (b : Bool) → b ≡ true → b ≡ false → ⊥
apart b yes_it no_it = true≢false (sym yes_it ∙ no_it)

or_swap : (a b c : Bool) → (a || (b || c)) ≡ ((b || a) || c)
or_swap true true c = refl
or_swap true false c = refl
or_swap false true c = refl
or_swap false false c = refl

or_assoc : (a b c : Bool) → (a || (b || c)) ≡ ((a || b) || c)
or_assoc true b c = refl
or_assoc false b c = refl

-- ---- lists of ids

-- a test that passes at an id passes at one of those among which it is
pub any_found : (P : List ℕ → Bool) (ids : List (List ℕ)) (id : List ℕ) → list_any (same_id id) ids ≡ true → P id ≡ true → list_any P ids ≡ true
any_found P [] id e p = absurd (true≢false (sym e))
any_found P (x ∷ ids) id e p = elim (or_cases (same_id id x) (list_any (same_id id) ids) e) [
  | inl here ↦ or_left (P x) (list_any P ids) (subst (λ y. P y ≡ true) (same_id-true id x here) p)
  | inr there ↦ or_right (P x) (list_any P ids) (any_found P ids id there p)
]

pub commits_append : (xs ys : List Install) → kept_commits (xs ++ ys) ≡ kept_commits xs ++ kept_commits ys
commits_append [] ys = refl
commits_append (x ∷ xs) ys = ap (λ ids. x.head ∷ x.pushed ∷ ids) (commits_append xs ys)

pub kept_append : (xs ys : List Install) (id : List ℕ) → is_kept (xs ++ ys) id ≡ (is_kept xs id || is_kept ys id)
kept_append xs ys id = ap (list_any (same_id id)) (commits_append xs ys) ∙ list_any-append (same_id id) (kept_commits xs) (kept_commits ys)

-- ---- sets of keys

pub in_all : (keys : List Key) (fresh : set.FinSet key_cmp) (key : Key) → set.contains (add_all keys fresh) key ≡ (is_in keys key || set.contains fresh key)
in_all [] fresh key = refl
in_all (k ∷ keys) fresh key =
    in_all keys (set.insert fresh k) key ∙ ap (λ b. is_in keys key || b) (set.contains-insert key_cmp_total fresh k key)
    ∙ or_swap (is_in keys key) (same_key key k) (set.contains fresh key)

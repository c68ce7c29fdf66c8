-- The entries of one directory in the order of their names. The key lemmas are named_in_order, apart_in_order and
-- named_member.
use Rattle.std.proofs.Common.{◌≡◌, ◌⊎◌, ◌&&◌, ℕ, Bool, true, false, T, if◌then◌else◌, cond, List, [], ◌∷◌, refl, sym, ap, ap₂, ◌∙◌, subst, Option, None, Some, Ordering, Less, Equal, Greater, inl, inr}
use Rattle.std.specs.List.{AllByRecursion}
use Rattle.std.specs.Prelude.{map as list_map}
use Rattle.std.specs.FinMap as map
use Rattle.std.specs.FinMap.Entries.{by_order, below_all}
use Rattle.std.specs.FinMap.{slice_cmp-IsAntisymmetric, nat_cmp-IsAntisymmetric}
use Rattle.std.specs.Cmp.{IsTotalOrder, Equal-is}
use Rattle.std.specs.Cmp.Lexicographic.{nat_list_cmp_total}
use Rattle.std.specs.Ordering.{eq_by_cmp, is_lt}
use Rattle.std.proofs.lemmas.List.{nil_from_length}
use Rattle.ids.proofs.BasicLemmas.{apart_from_is_lt, both_from_T}
use Rattle.fs_objects.specs.declared.dirent.Dirent.{Dirent}
use Rattle.object_graph.specs.Objects.{name_cmp, entry_named, by_name, in_name_order}

pub names_total : IsTotalOrder name_cmp
names_total = nat_list_cmp_total

pub names_exact : map.IsAntisymmetric name_cmp
names_exact = slice_cmp-IsAntisymmetric nat_cmp-IsAntisymmetric

pub same_name-true : (m n : List ℕ) → eq_by_cmp name_cmp m n ≡ true → m ≡ n
same_name-true m n e = names_exact m n ((Equal-is (name_cmp m n)).0 e)

-- one of the entries
unfoldable pub In : Dirent → List Dirent → Type 0
In e [] = ⊥
In e (x ∷ entries) = (e ≡ x) ⊎ In e entries

-- what is found by its name is one of the entries, and has that name
pub named_member : (name : List ℕ) (entries : List Dirent) (e : Dirent) → entry_named name entries ≡ Some e → In e entries
unfolding In
named_member name [] e is = cc
named_member name (x ∷ entries) e is = by (eq_by_cmp name_cmp name x.name) is (named_member name entries e)
  where
    by : (b : Bool) → (if b then Some x else entry_named name entries) ≡ Some e → (entry_named name entries ≡ Some e → In e entries) → (e ≡ x) ⊎ In e entries
    by true is more = let same : e ≡ x = cc in inl same
    by false is more = inr (more is)

pub named_name : (name : List ℕ) (entries : List Dirent) (e : Dirent) → entry_named name entries ≡ Some e → name ≡ e.name
named_name name [] e is = cc
named_name name (x ∷ entries) e is = by (eq_by_cmp name_cmp name x.name) refl is (named_name name entries e)
  where
    by : (b : Bool) → eq_by_cmp name_cmp name x.name ≡ b → (if b then Some x else entry_named name entries) ≡ Some e → (entry_named name entries ≡ Some e → name ≡ e.name) → name ≡ e.name
    by true same is more =
        let there : x ≡ e = cc in
        same_name-true name x.name same ∙ ap (λ (y : Dirent). y.name) there
    by false same is more = more is

-- ---- the entries under their names

Keyed : List (List ℕ × Dirent) → Type 0
Keyed entries = AllByRecursion (λ (p : List ℕ × Dirent). p.0 ≡ p.1.name) entries

keyed-put : (e : Dirent) (entries : List (List ℕ × Dirent)) → Keyed entries → Keyed (map.put name_cmp e.name e entries)
unfolding Keyed
keyed-put e [] all = (refl, tt)
keyed-put e (p ∷ entries) all = by (name_cmp e.name p.0) refl (keyed-put e entries all.1)
  where
    by : (o : Ordering) → name_cmp e.name p.0 ≡ o → Keyed (map.put name_cmp e.name e entries)
        → Keyed (by_order o ((e.name, e) ∷ p ∷ entries) ((p.0, e) ∷ entries) (p ∷ map.put name_cmp e.name e entries))
    by Less is more = (refl, all)
    by Equal is more = (sym (names_exact e.name p.0 is), all.1)
    by Greater is more = (all.0, more)

entries-empty : map.entries (map.empty {X = Dirent} {R = name_cmp}) ≡ []
entries-empty = nil_from_length (map.entries (map.empty {X = Dirent} {R = name_cmp})) (sym (map.len-entries (map.empty {X = Dirent} {R = name_cmp})) ∙ map.len-empty name_cmp Dirent)

keyed-by_name : (entries : List Dirent) → Keyed (map.entries (by_name entries))
unfolding Keyed
keyed-by_name [] = subst Keyed (sym entries-empty) tt
keyed-by_name (e ∷ entries) = subst Keyed (sym (map.entries-insert names_total (by_name entries) e.name e)) (keyed-put e (map.entries (by_name entries)) (keyed-by_name entries))

pub nothing_in_order : in_name_order [] ≡ []
nothing_in_order = ap (list_map (λ (p : List ℕ × Dirent). p.1)) entries-empty

pub get-by_name : (name : List ℕ) (entries : List Dirent) → map.get (by_name entries) name ≡ entry_named name entries
get-by_name name [] = map.get-empty name_cmp name
get-by_name name (e ∷ entries) = map.get-insert names_total (by_name entries) e.name e name ∙ ap (cond (eq_by_cmp name_cmp name e.name) (Some e)) (get-by_name name entries)

abbrev values_of : List (List ℕ × Dirent) → List Dirent
values_of [] = []
values_of (p ∷ entries) = p.1 ∷ values_of entries

values-map : (entries : List (List ℕ × Dirent)) → list_map (λ (p : List ℕ × Dirent). p.1) entries ≡ values_of entries
values-map [] = refl
values-map (p ∷ entries) = ap (λ es. p.1 ∷ es) (values-map entries)

named-values : (name : List ℕ) (entries : List (List ℕ × Dirent)) → Keyed entries → entry_named name (values_of entries) ≡ map.find name_cmp name entries
unfolding Keyed
named-values name [] all = refl
named-values name (p ∷ entries) all =
    ap₂ (λ (b : Bool) (o : Option Dirent). if b then Some p.1 else o) (ap (eq_by_cmp name_cmp name) (sym all.0)) (named-values name entries all.1)

-- each entry stands in the order of names as it is found by its name
pub named_in_order : (name : List ℕ) (entries : List Dirent) → entry_named name (in_name_order entries) ≡ entry_named name entries
named_in_order name entries =
    ap (entry_named name) (values-map (map.entries (by_name entries)))
    ∙ named-values name (map.entries (by_name entries)) (keyed-by_name entries)
    ∙ sym (map.get-entries (by_name entries) name)
    ∙ get-by_name name entries

-- no entry has the name of a later one
unfoldable pub Apart : List Dirent → Type 0
Apart [] = Unit {0}
Apart (e ∷ entries) = (entry_named e.name entries ≡ None) × Apart entries

none_below : (p : List ℕ × Dirent) (entries : List (List ℕ × Dirent)) → p.0 ≡ p.1.name → Keyed entries → T (below_all name_cmp p.0 entries) → entry_named p.1.name (values_of entries) ≡ None
unfolding Keyed
none_below p [] same all below = refl
none_below p (q ∷ entries) same all below =
    let parts = both_from_T (is_lt (name_cmp p.0 q.0)) (below_all name_cmp p.0 entries) below in
    let here : eq_by_cmp name_cmp p.1.name q.1.name ≡ false = ap₂ (eq_by_cmp name_cmp) (sym same) (sym all.0) ∙ apart_from_is_lt (name_cmp p.0 q.0) parts.0 in
    ap (λ (b : Bool). if b then Some q.1 else entry_named p.1.name (values_of entries)) here ∙ none_below p entries same all.1 parts.1

apart_values : (entries : List (List ℕ × Dirent)) → Keyed entries → T (map.is_sorted name_cmp entries) → Apart (values_of entries)
unfolding Keyed Apart
apart_values [] all sorted = tt
apart_values (p ∷ entries) all sorted =
    let parts = both_from_T (below_all name_cmp p.0 entries) (map.is_sorted name_cmp entries) sorted in
    (none_below p entries all.0 all.1 parts.0, apart_values entries all.1 parts.1)

pub apart_in_order : (entries : List Dirent) → Apart (in_name_order entries)
apart_in_order entries =
    subst Apart (sym (values-map (map.entries (by_name entries))))
    (apart_values (map.entries (by_name entries)) (keyed-by_name entries) (map.entries_sorted (by_name entries)))

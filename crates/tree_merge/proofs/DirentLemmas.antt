-- Entries of directories by their names. The key lemmas are same_listing, named_push, named_push_other and distinct_push.
use Rattle.std.proofs.Common.{◌≡◌, ◌≢◌, ℕ, zero, suc, ◌||◌, Bool, true, false, if◌then◌else◌, List, [], ◌∷◌, ◌++◌, refl, sym, ap, ap₂, ◌∙◌, subst, arith, Option, Some, None, Contains, true≢false}
use Rattle.std.proofs.lemmas.Cmp.{nat_list_eq_equiv}
use Rattle.std.proofs.lemmas.List.{map-append}
use Rattle.std.proofs.lemmas.List.Sorted.{Contains-permutation, IsPermutation-sym}
use Rattle.std.proofs.lemmas.Map.Keys.{IsDistinct-head, IsDistinct-tail, IsDistinct-push}
use Rattle.std.proofs.lemmas.Map.Text.{is_eq-slice_cmp}
use Rattle.std.specs.Cmp.{tied_itself}
use Rattle.std.specs.List.{AllByRecursion, IsDistinct, list_any}
use Rattle.std.specs.List.Sorted.{IsPermutation}
use Rattle.std.specs.Ordering.{eq_by_cmp, is_eq}
use Rattle.std.specs.Str.{bytes_eq}
use Rattle.fs_objects.specs.Directory.{names_of}
use Rattle.fs_objects.specs.Spelling.{in_written_order}
use Rattle.fs_objects.specs.declared.dirent.Dirent.{Dirent}
use Rattle.fs_objects.proofs.OrderLemmas.{in_written_order-permutes, IsDistinct-in_written_order}
use Rattle.object_graph.specs.Objects.{name_cmp, entry_named}
use Rattle.object_graph.proofs.EntryLemmas.{names_total, same_name-true, named_name}
use Rattle.ids.proofs.BasicLemmas.{contains_more}

abbrev pub same_name : List ℕ → List ℕ → Bool
same_name = eq_by_cmp name_cmp

pub same_name-itself : (n : List ℕ) → same_name n n ≡ true
same_name-itself n = ap is_eq (tied_itself names_total n)

pub same_name-apart : (m n : List ℕ) → m ≢ n → same_name m n ≡ false
same_name-apart m n apart = by (same_name m n) refl
  where
    by : (b : Bool) → same_name m n ≡ b → same_name m n ≡ false
    by true is = absurd (apart (same_name-true m n is))
    by false is = is

-- what is found by its name is one of the entries
named_there : (n : List ℕ) (es : List Dirent) (e : Dirent) → entry_named n es ≡ Some e → Contains es e
named_there n [] e is = cc
named_there n (x ∷ es) e is = by (same_name n x.name) is (named_there n es e)
  where
    by : (b : Bool) → (if b then Some x else entry_named n es) ≡ Some e → (entry_named n es ≡ Some e → Contains es e) → Contains (x ∷ es) e
    by true is more = let same : x ≡ e = cc in (0, omega arith, same)
    by false is more = contains_more x e es (more is)

all_at : (P : List ℕ → Type 0) (es : List Dirent) (e : Dirent) → AllByRecursion P (names_of es) → Contains es e → P e.name
all_at P [] e all (k, below, is) = absurd (omega arith)
all_at P (x ∷ es) e all (zero, below, is) = subst (λ (y : Dirent). P y.name) is all.0
all_at P (x ∷ es) e all (suc k, below, is) = all_at P es e all.1 (k, omega arith, is)

-- and one of the entries is found by its name, where names are distinct
named_by : (es : List Dirent) (e : Dirent) → IsDistinct bytes_eq (names_of es) → Contains es e → entry_named e.name es ≡ Some e
named_by [] e distinct (k, below, is) = absurd (omega arith)
named_by (x ∷ es) e distinct (zero, below, is) =
    ap (λ (b : Bool). if b then Some x else entry_named e.name es) (ap (λ (y : Dirent). same_name e.name y.name) is ∙ same_name-itself e.name) ∙ ap Some is
named_by (x ∷ es) e distinct (suc k, below, is) =
    let there : Contains es e = (k, omega arith, is) in
    let apart : bytes_eq x.name e.name ≡ false = all_at (λ n. bytes_eq x.name n ≡ false) es e (IsDistinct-head bytes_eq x.name (names_of es) distinct) there in
    let other : e.name ≢ x.name = λ h. true≢false (sym (ap (bytes_eq x.name) h ∙ nat_list_eq_equiv.refl x.name) ∙ apart) in
    ap (λ (b : Bool). if b then Some x else entry_named e.name es) (same_name-apart e.name x.name other) ∙ named_by es e (IsDistinct-tail bytes_eq x.name (names_of es) distinct) there

-- the same entries in another order have the same names
pub same_listing : (es fs : List Dirent) → IsPermutation es fs → IsDistinct bytes_eq (names_of es) → IsDistinct bytes_eq (names_of fs) → (n : List ℕ) → entry_named n fs ≡ entry_named n es
same_listing es fs moved distinct still n = by (entry_named n es) (entry_named n fs) refl refl
  where
    by : (o p : Option Dirent) → entry_named n es ≡ o → entry_named n fs ≡ p → entry_named n fs ≡ entry_named n es
    by (Some e) p here there =
        let found : entry_named e.name fs ≡ Some e = named_by fs e still (Contains-permutation es fs e moved (named_there n es e here)) in
        ap (λ (m : List ℕ). entry_named m fs) (named_name n es e here) ∙ found ∙ sym here
    by None None here there = there ∙ sym here
    by None (Some e) here there =
        let found : entry_named e.name es ≡ Some e = named_by es e distinct (Contains-permutation fs es e (IsPermutation-sym es fs moved) (named_there n fs e there)) in
        let both : None ≡ Some e = sym here ∙ ap (λ (m : List ℕ). entry_named m es) (named_name n fs e there) ∙ found in cc

pub written_listing : (es : List Dirent) → IsDistinct bytes_eq (names_of es) → (n : List ℕ) → entry_named n (in_written_order es) ≡ entry_named n es
written_listing es distinct n = same_listing es (in_written_order es) (in_written_order-permutes es distinct) distinct (IsDistinct-in_written_order es distinct) n

-- ---- one entry more

pub named_push : (es : List Dirent) (e : Dirent) (n : List ℕ) → e.name ≡ n → entry_named n es ≡ None → entry_named n (es ++ e ∷ []) ≡ Some e
named_push [] e n is none = ap (λ (b : Bool). if b then Some e else None) (ap (same_name n) is ∙ same_name-itself n)
named_push (x ∷ es) e n is none = by (same_name n x.name) none (named_push es e n is)
  where
    by : (b : Bool) → (if b then Some x else entry_named n es) ≡ None → (entry_named n es ≡ None → entry_named n (es ++ e ∷ []) ≡ Some e) → (if b then Some x else entry_named n (es ++ e ∷ [])) ≡ Some e
    by true none more = cc
    by false none more = more none

pub named_push_other : (es : List Dirent) (e : Dirent) (n : List ℕ) → n ≢ e.name → entry_named n (es ++ e ∷ []) ≡ entry_named n es
named_push_other [] e n other = ap (λ (b : Bool). if b then Some e else None) (same_name-apart n e.name other)
named_push_other (x ∷ es) e n other = ap (λ (o : Option Dirent). if same_name n x.name then Some x else o) (named_push_other es e n other)

untaken : (es : List Dirent) (n : List ℕ) → entry_named n es ≡ None → list_any (bytes_eq n) (names_of es) ≡ false
untaken [] n none = refl
untaken (x ∷ es) n none = by (same_name n x.name) (is_eq-slice_cmp n x.name) none (untaken es n)
  where
    by : (b : Bool) → b ≡ bytes_eq n x.name → (if b then Some x else entry_named n es) ≡ None → (entry_named n es ≡ None → list_any (bytes_eq n) (names_of es) ≡ false)
        → (bytes_eq n x.name || list_any (bytes_eq n) (names_of es)) ≡ false
    by true is none more = cc
    by false is none more = ap₂ ◌||◌ (sym is) (more none)

pub distinct_push : (es : List Dirent) (e : Dirent) → IsDistinct bytes_eq (names_of es) → entry_named e.name es ≡ None → IsDistinct bytes_eq (names_of (es ++ e ∷ []))
distinct_push es e distinct none =
    subst (IsDistinct bytes_eq) (sym (map-append (λ (x : Dirent). x.name) es (e ∷ [])))
    (IsDistinct-push nat_list_eq_equiv (names_of es) e.name distinct (untaken es e.name none))

pub distinct_none : IsDistinct bytes_eq []
unfolding IsDistinct
distinct_none = tt

-- The names under which the client keeps its texts are good names. The key lemmas are index_made and index_named.
use Rattle.std.proofs.Common.{◌≡◌, ℕ, ◌+◌, ◌≤◌, Bool, true, false, not, nat_lt, ◌&&◌, ◌==◌, cond, IsTrue, List, [], ◌∷◌, ◌++◌, length, get_or, codes, None, Some, position, refl, sym, ap, subst, ◌∙◌, arith, le-ltb, ne_eqb, length-append}
use Rattle.std.proofs.lemmas.Bool.{eqb-true}
use Rattle.std.proofs.lemmas.Bool.Decides.{nat_tests}
use Rattle.std.proofs.lemmas.Iterator.Adapters.{position_from-zero}
use Rattle.std.proofs.lemmas.List.Elements.{All-from_get_or}
use Rattle.std.proofs.lemmas.List.Sums.{list_all-from_AllPass}
use Rattle.std.specs.List.{list_all, position_from}
use Rattle.uuid.specs.Text.{hyphenated_text, is_hyphen_place, lower}
use Rattle.ids.specs.Digits.{is_lower_digit}
use Rattle.ids.specs.Form.{IsOf}
use Rattle.ids.specs.LibraryId.{library_form}
use Rattle.ids.proofs.BasicLemmas.{list_all-joined}
use Rattle.ids.proofs.LibraryTextLemmas.{IsOf-hyphenated}
use Rattle.tree_model.specs.Name.{has_dots, is_separator, name_fault}
use Rattle.client_desk.specs.KeptTexts.{index_name}

-- a byte that a name may have
abbrev is_free : ℕ → Bool
is_free b = not (is_separator b)

none_from : (place : ℕ) (xs : List ℕ) → list_all is_free xs ≡ true → position_from is_separator place xs ≡ None
none_from place [] e = refl
none_from place (x ∷ xs) e = by (is_separator x) e (none_from (place + 1) xs)
  where
    by : (b : Bool) → (not b && list_all is_free xs) ≡ true
        → (list_all is_free xs ≡ true → position_from is_separator (place + 1) xs ≡ None) → cond b (Some place) (position_from is_separator (place + 1) xs) ≡ None
    by true h rest = cc
    by false h rest = rest h

-- some bytes that a name may have, 255 at most, and no dots alone
named : (text : List ℕ) → 1 ≤ length text → length text ≤ 255 → list_all is_free text ≡ true → has_dots text ≡ false → name_fault text ≡ None
named text long short free plain =
    let some : (length text == 0) ≡ false = ne_eqb _ _ (λ e. absurd (omega (arith, e))) in
    let fits : nat_lt 255 (length text) ≡ false = le-ltb 255 (length text) short in
    let none : position is_separator text ≡ None = position_from-zero is_separator text ∙ none_from 0 text free in
    rw (some, fits, none, plain) refl

digit_free : (b : ℕ) → is_lower_digit b ≡ true → is_free b ≡ true
digit_free b is = grind (arith, nat_tests)

allowed_free : (hyphen : Bool) (c : ℕ) → cond hyphen (c == 45) (is_lower_digit c) ≡ true → is_free c ≡ true
allowed_free true c is = subst (λ b. is_free b ≡ true) (sym (eqb-true c 45 is)) refl
allowed_free false c is = digit_free c is

form_free : (text : List ℕ) → IsOf library_form text → list_all is_free text ≡ true
form_free text form =
    let whole : length text ≡ 36 = form.whole in
    list_all-from_AllPass is_free text
    (All-from_get_or (λ c. IsTrue (is_free c)) text 0 (λ k l. allowed_free (is_hyphen_place k) (get_or text k 0) (form.each k (omega (arith, l, whole)))))

-- the text of a library id between two others
joined_size : (front text back : List ℕ) → length ((front ++ text) ++ back) ≡ length front + length text + length back
joined_size front text back = simp length-append

index_size : (lib : List ℕ) → length (index_name lib) ≡ 47
index_size lib =
    let joined = joined_size (codes "index-") (hyphenated_text lower lib) (codes ".json") in
    let whole : length (hyphenated_text lower lib) ≡ 36 = (IsOf-hyphenated lib).whole in
    omega (arith, joined, whole)

index_free : (lib : List ℕ) → list_all is_free (index_name lib) ≡ true
index_free lib =
    list_all-joined is_free (codes "index-" ++ hyphenated_text lower lib) (codes ".json")
    (list_all-joined is_free (codes "index-") (hyphenated_text lower lib) refl (form_free (hyphenated_text lower lib) (IsOf-hyphenated lib))) refl

-- made piece by piece
pub index_made : (lib front first said digits second all : List ℕ) → front ≡ [] → first ≡ front ++ codes "index-" → said ≡ digits → digits ≡ hyphenated_text lower lib → second ≡ first ++ said
    → all ≡ second ++ codes ".json" → all ≡ index_name lib
index_made lib front first said digits second all none begun same is grown ended =
    ended
    ∙ ap (λ (t : List ℕ). t ++ codes ".json")
    (grown ∙ ap (λ (t : List ℕ). t ++ said) (begun ∙ ap (λ (t : List ℕ). t ++ codes "index-") none) ∙ ap (λ (t : List ℕ). codes "index-" ++ t) (same ∙ is))

pub index_named : (lib : List ℕ) → name_fault (index_name lib) ≡ None
index_named lib =
    let size = index_size lib in
    named (index_name lib) (omega (arith, size)) (omega (arith, size)) (index_free lib) refl

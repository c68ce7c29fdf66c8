-- A conflict name is a good name where it isn't too long, and other numbers give other names.
use Rattle.std.proofs.Common.{◌≡◌, ℕ, ◌+◌, ◌≤◌, Bool, true, false, not, nat_eq, nat_lt, ◌&&◌, ◌==◌, cond, List, [], ◌∷◌, ◌++◌, length, map, take, drop, codes, None, Some, position, refl, sym, ap, ◌∙◌, arith, ℤ, le-ltb, ne_eqb, length-append}
use Rattle.std.proofs.lemmas.Bool.{and_parts, and_right}
use Rattle.std.proofs.lemmas.Iterator.Adapters.{position_from-zero}
use Rattle.std.proofs.lemmas.List.{append_cancel_left, append_cancel_right, take-append-drop}
use Rattle.std.proofs.lemmas.List.Folds.{list_all-append}
use Rattle.std.specs.List.{list_all, position_from}
use Rattle.tree_model.specs.Name.{IsName, is_separator, has_dots}
use Rattle.tree_model.specs.ThreeWayMerge.{IsNaming}
use Rattle.conflict_names.specs.CivilTime.{moment_of, stamp}
use Rattle.conflict_names.specs.Naming.{ext_at, shown, number_text, naming}
use Rattle.conflict_names.proofs.NumeralLemmas.{number_text-injective}
use Rattle.conflict_names.proofs.PlainLemmas.{is_free, one_more, all-free, stamp-plain, number_text-plain}
use Rattle.ids.proofs.BasicLemmas.{none_from_option_map, nones_from_option_or, list_all-joined}

free_from : (place : ℕ) (xs : List ℕ) → position_from is_separator place xs ≡ None → list_all is_free xs ≡ true
free_from place [] e = refl
free_from place (x ∷ xs) e = by (is_separator x) e (free_from (place + 1) xs)
  where
    by : (b : Bool) → cond b (Some place) (position_from is_separator (place + 1) xs) ≡ None
        → (position_from is_separator (place + 1) xs ≡ None → list_all is_free xs ≡ true) → (not b && list_all is_free xs) ≡ true
    by true h rest = cc
    by false h rest = rest h

none_from : (place : ℕ) (xs : List ℕ) → list_all is_free xs ≡ true → position_from is_separator place xs ≡ None
none_from place [] e = refl
none_from place (x ∷ xs) e = by (is_separator x) e (none_from (place + 1) xs)
  where
    by : (b : Bool) → (not b && list_all is_free xs) ≡ true
        → (list_all is_free xs ≡ true → position_from is_separator (place + 1) xs ≡ None) → cond b (Some place) (position_from is_separator (place + 1) xs) ≡ None
    by true h rest = cc
    by false h rest = rest h

name_free : (name : List ℕ) → IsName name → list_all is_free name ≡ true
name_free name h =
    let a = nones_from_option_or _ _ h.faultless in
    let b = nones_from_option_or _ _ a.1 in
    let c = nones_from_option_or _ _ b.1 in
    let none : position is_separator name ≡ None = none_from_option_map _ _ c.0 in
    free_from 0 name (sym (position_from-zero is_separator name) ∙ none)

long-no_dots : (text : List ℕ) → 3 ≤ length text → has_dots text ≡ false
long-no_dots [] long = absurd (omega arith)
long-no_dots (a ∷ []) long = absurd (omega arith)
long-no_dots (a ∷ b ∷ []) long = absurd (omega arith)
long-no_dots (a ∷ b ∷ c ∷ rest) long =
    let one : (nat_eq a 46 && false) ≡ false = and_right _ _ refl in
    let two : (nat_eq a 46 && (nat_eq b 46 && false)) ≡ false = and_right _ _ (and_right _ _ refl) in
    rw (one, two) refl

good : (text : List ℕ) → 3 ≤ length text → length text ≤ 255 → list_all is_free text ≡ true → IsName text
good text long short free =
    let some : (length text == 0) ≡ false = ne_eqb _ _ (λ e. absurd (omega (arith, e))) in
    let fits : nat_lt 255 (length text) ≡ false = le-ltb 255 (length text) short in
    let none : position is_separator text ≡ None = position_from-zero is_separator text ∙ none_from 0 text free in
    let plain : has_dots text ≡ false = long-no_dots text long in
    record { faultless = rw (some, fits, none, plain) refl }

cut_free : (n : ℕ) (name : List ℕ) → list_all is_free name ≡ true → (list_all is_free (take n name) ≡ true) × (list_all is_free (drop n name) ≡ true)
cut_free n name h =
    and_parts (list_all is_free (take n name)) (list_all is_free (drop n name))
    (sym (list_all-append is_free (take n name) (drop n name)) ∙ ap (list_all is_free) (take-append-drop n name) ∙ h)

shown-free : (b : ℕ) → is_free (shown b) ≡ true
shown-free b = by (is_separator b) refl
  where
    by : (s : Bool) → is_separator b ≡ s → is_free (cond s 95 b) ≡ true
    by true e = refl
    by false e = rw e refl

modifier_free : (modifier : List ℕ) → list_all is_free (map shown modifier) ≡ true
modifier_free [] = refl
modifier_free (b ∷ modifier) = one_more is_free (shown b) (map shown modifier) (shown-free b) (modifier_free modifier)

eight_free : (a b c d e f g h : List ℕ) → list_all is_free a ≡ true → list_all is_free b ≡ true → list_all is_free c ≡ true → list_all is_free d ≡ true
    → list_all is_free e ≡ true → list_all is_free f ≡ true → list_all is_free g ≡ true → list_all is_free h ≡ true
    → list_all is_free (a ++ b ++ c ++ d ++ e ++ f ++ g ++ h) ≡ true
eight_free a b c d e f g h pa pb pc pd pe pf pg ph =
    list_all-joined is_free (a ++ b ++ c ++ d ++ e ++ f ++ g) h (list_all-joined is_free (a ++ b ++ c ++ d ++ e ++ f) g (list_all-joined is_free (a ++ b ++ c ++ d ++ e) f
    (list_all-joined is_free (a ++ b ++ c ++ d) e (list_all-joined is_free (a ++ b ++ c) d (list_all-joined is_free (a ++ b) c (list_all-joined is_free a b pa pb) pc) pd) pe) pf) pg) ph

eight_long : (a b c d e f g h : List ℕ) → length b ≤ length (a ++ b ++ c ++ d ++ e ++ f ++ g ++ h)
eight_long a b c d e f g h = simp length-append (omega arith)

pub naming-good : (name modifier : List ℕ) (mtime : ℤ) (k : ℕ) → IsName name → length (naming name modifier mtime k) ≤ 255 → IsName (naming name modifier mtime k)
naming-good name modifier mtime k is short =
    let parts = cut_free (ext_at name) name (name_free name is) in
    let long = eight_long (take (ext_at name) name) (codes " (SFConflict ") (map shown modifier) (32 ∷ []) (stamp (moment_of mtime)) (number_text k) (41 ∷ []) (drop (ext_at name) name) in
    good (naming name modifier mtime k) (omega (arith, long)) short
    (eight_free (take (ext_at name) name) (codes " (SFConflict ") (map shown modifier) (32 ∷ []) (stamp (moment_of mtime)) (number_text k) (41 ∷ []) (drop (ext_at name) name)
    parts.0 refl (modifier_free modifier) refl (all-free (stamp (moment_of mtime)) (stamp-plain (moment_of mtime))) (all-free (number_text k) (number_text-plain k)) refl parts.1)

only_number : (front ext : List ℕ) (i j : ℕ) → front ++ number_text i ++ 41 ∷ [] ++ ext ≡ front ++ number_text j ++ 41 ∷ [] ++ ext → number_text i ≡ number_text j
only_number front ext i j e =
    append_cancel_left front (number_text i) (number_text j)
    (append_cancel_right (front ++ number_text i) (front ++ number_text j) (41 ∷ [])
    (append_cancel_right (front ++ number_text i ++ 41 ∷ []) (front ++ number_text j ++ 41 ∷ []) ext e))

pub naming-naming : IsNaming naming
naming-naming = record {
  apart = λ name modifier mtime i j a b e.
      number_text-injective i j a b
      (only_number (take (ext_at name) name ++ codes " (SFConflict " ++ map shown modifier ++ 32 ∷ [] ++ stamp (moment_of mtime)) (drop (ext_at name) name) i j e);
  good = λ name modifier mtime k _ is short. naming-good name modifier mtime k is short;
}

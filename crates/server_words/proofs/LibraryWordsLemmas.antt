-- The libraries whose ids words are: one for each word, and no two alike. The key lemma is line_fits.
use Rattle.std.proofs.Common.{◌≡◌, ◌≢◌, ℕ, zero, suc, ◌+◌, ◌<◌, ◌≤◌, nat_le, Bool, true, false, ◌&&◌, not, List, [], ◌∷◌, ◌++◌, length, map, Option, None, Some, Result, Ok, Err, ap, refl, subst, sym, ◌∙◌, arith}
use Rattle.std.specs.List.{list_any}
use Rattle.std.specs.Option.{IfSome}
use Rattle.std.specs.Prelude.{IfOk, slice_index_or}
use Rattle.std.specs.Str.{bytes_eq}
use Rattle.std.proofs.lemmas.Bool.{and_parts, false≢true, leb-true, or_parts}
use Rattle.std.proofs.lemmas.List.{get_or-map, length-map}
use Rattle.std.proofs.lemmas.Slice.Eq.{bytes_eq-Decides}
use Rattle.uuid.specs.Text.{hyphenated_text, lower}
use Rattle.server_words.specs.CommandLine.{AreApart, AreLibraries, ids_of, is_distinct, is_line_of_libraries, most_libraries}
use Rattle.server_words.proofs.SpellingLemmas.{ids_text}

-- what is read after these
abbrev pub after : List (List ℕ) → Option (List (List ℕ)) → Option (List (List ℕ))
after read None = None
after read (Some more) = Some (read ++ more)

-- ---- words that stand nowhere behind themselves

not_not : (b : Bool) → not b ≡ true → b ≡ false
not_not false e = refl
not_not true e = sym e

-- a word is none of those among which it isn't found
none_same : (word : List ℕ) (words : List (List ℕ)) → list_any (bytes_eq word) words ≡ false → (j : ℕ) (e : List ℕ) → j < length words → word ≢ slice_index_or words j e
none_same word [] none j e less same = absurd (omega (arith, less))
none_same word (w ∷ ws) none zero e less same = false≢true (sym (or_parts (bytes_eq word w) (list_any (bytes_eq word) ws) none).0 ∙ (bytes_eq-Decides word w).1 same)
none_same word (w ∷ ws) none (suc j) e less same =
    none_same word ws (or_parts (bytes_eq word w) (list_any (bytes_eq word) ws) none).1 j e (omega (arith, less)) same

words_apart : (words : List (List ℕ)) → is_distinct words ≡ true → AreApart words
words_apart [] all i j d e less within same = absurd (omega (arith, within))
words_apart (w ∷ ws) all zero zero d e less within same = absurd (omega (arith, less))
words_apart (w ∷ ws) all zero (suc j) d e less within same =
    none_same w ws (not_not (list_any (bytes_eq w) ws) (and_parts (not (list_any (bytes_eq w) ws)) (is_distinct ws) all).0) j e (omega (arith, within)) same
words_apart (w ∷ ws) all (suc i) zero d e less within same = absurd (omega (arith, less))
words_apart (w ∷ ws) all (suc i) (suc j) d e less within same =
    words_apart ws (and_parts (not (list_any (bytes_eq w) ws)) (is_distinct ws) all).1 i j d e (omega (arith, less)) (omega (arith, within)) same

-- ---- so are the libraries whose texts they are

mapped_apart : (f : List ℕ → List ℕ) (ids : List (List ℕ)) → AreApart (map f ids) → AreApart ids
mapped_apart f ids apart i j d e less within same =
    apart i j d e less (subst (λ (n : ℕ). j < n) (sym (length-map ids f)) within)
    (get_or-map f ids i d d (omega (arith, less, within)) ∙ (ap f same ∙ sym (get_or-map f ids j e e within)))

fit : (words ids : List (List ℕ)) → words ≡ map (hyphenated_text lower) ids → is_line_of_libraries words ≡ true → AreLibraries ids
fit words ids same line =
    let some = and_parts (nat_le 1 (length words)) (nat_le (length words) most_libraries && is_distinct words) line in
    let few = and_parts (nat_le (length words) most_libraries) (is_distinct words) some.1 in
    let size : length words ≡ length ids = ap (λ (xs : List (List ℕ)). length xs) same ∙ length-map ids (hyphenated_text lower) in
    record {
      some = subst (λ (n : ℕ). 1 ≤ n) size (leb-true 1 (length words) some.0);
      few = subst (λ (n : ℕ). n ≤ most_libraries) size (leb-true (length words) most_libraries few.0);
      apart = mapped_apart (hyphenated_text lower) ids (subst AreApart same (words_apart words few.1));
    }

line_at : (words : List (List ℕ)) (ids : Option (List (List ℕ))) → is_line_of_libraries words ≡ true → IfSome ids (λ libs. words ≡ map (hyphenated_text lower) libs) → IfSome ids AreLibraries
line_at words None line same = tt
line_at words (Some ids) line same = fit words ids same line

pub line_fits : {E : Type 0} (words : List (List ℕ)) (r : Result (Option (List (List ℕ))) E) → is_line_of_libraries words ≡ true → IfOk r (λ libs. libs ≡ ids_of words)
    → IfOk r (λ libs. IfSome libs AreLibraries)
line_fits words (Ok libs) line is = subst (λ (o : Option (List (List ℕ))). IfSome o AreLibraries) (sym is) (line_at words (ids_of words) line (ids_text words))
line_fits words (Err e) line is = tt

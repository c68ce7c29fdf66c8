-- A conflict name is UTF-8. The key lemma is naming-utf8.
use Rattle.std.proofs.Common.{◌≡◌, ℕ, ◌<◌, ◌≤◌, inl, inr, Bool, true, false, cond, List, [], ◌∷◌, ◌++◌, get_or, map, take, drop, codes, refl, sym, ap, ◌∙◌, arith, IsUtf8, nat_lt, All, ℤ}
use Rattle.std.specs.List.{list_all}
use Rattle.std.proofs.lemmas.Bool.{and_parts, cases_lt}
use Rattle.std.proofs.lemmas.Bool.Decides.{nat_tests}
use Rattle.std.proofs.lemmas.List.{map-append, append-nil}
use Rattle.std.proofs.lemmas.Str.{inside_one, encode_ascii, IsUtf8-append, IsUtf8-take, IsUtf8-drop, IsUtf8-from_ascii}
use Rattle.std.proofs.lemmas.List.Elements.{All-head, All-tail, All-from_get_or}
use Rattle.conflict_names.specs.Naming.{ext_at, shown, number_text, naming}
use Rattle.conflict_names.specs.CivilTime.{moment_of, stamp}
use Rattle.conflict_names.proofs.ExtensionLemmas.{ext_at-boundary}
use Rattle.conflict_names.proofs.PlainLemmas.{all-ascii, IsAscii-from_tests, stamp-plain, number_text-plain}
use Rattle.tree_model.specs.Name.{is_separator}
use lib.Utf8.{scalar, scalars, encode, encodes}

shown_high : (c : ℕ) → 128 ≤ c → shown c ≡ c
shown_high c high = grind (arith, nat_tests)

shown_low : (c : ℕ) → c < 128 → shown c < 128
shown_low c low = grind (arith, nat_tests)

high_same : (xs : List ℕ) → All (λ b. 128 ≤ b) xs → map shown xs ≡ xs
high_same [] h = refl
high_same (x ∷ xs) h =
    let first : shown x ≡ x = shown_high x (All-head (λ b. 128 ≤ b) x xs h) in
    let rest : map shown xs ≡ xs = high_same xs (All-tail (λ b. 128 ≤ b) x xs h) in
    cc

high_bytes : (c : ℕ) → 128 ≤ c → All (λ b. 128 ≤ b) (encode c)
high_bytes c high =
    All-from_get_or (λ b. 128 ≤ b) (encode c) 0
    (λ k lt. elim (cases_lt (get_or (encode c) k 0) 128) [
      | inl low ↦ let same : c ≡ get_or (encode c) k 0 = inside_one c [] (encode c) k (sym (append-nil (encode c))) lt low in absurd (omega arith)
      | inr ge ↦ ge
    ])

one_char : (c : ℕ) → map shown (encode c) ≡ encode (shown c)
one_char c =
    elim (cases_lt c 128) [
      | inl low ↦ ap (map shown) (encode_ascii c low) ∙ sym (encode_ascii (shown c) (shown_low c low))
      | inr high ↦ high_same (encode c) (high_bytes c high) ∙ ap encode (sym (shown_high c high))
    ]

all_chars : (cs : List ℕ) → map shown (encodes cs) ≡ encodes (map shown cs)
all_chars [] = refl
all_chars (c ∷ cs) =
    map-append shown (encode c) (encodes cs) ∙ ap (λ (x : List ℕ). x ++ map shown (encodes cs)) (one_char c)
    ∙ ap (λ (x : List ℕ). encode (shown c) ++ x) (all_chars cs)

one_scalar : (c : ℕ) → scalar c ≡ true → scalar (shown c) ≡ true
one_scalar c h = by (is_separator c)
  where
    by : (s : Bool) → scalar (cond s 95 c) ≡ true
    by true = refl
    by false = h

all_scalar : (cs : List ℕ) → scalars cs ≡ true → scalars (map shown cs) ≡ true
all_scalar [] h = refl
all_scalar (c ∷ cs) h =
    let parts = and_parts (scalar c) (scalars cs) h in
    let first : scalar (shown c) ≡ true = one_scalar c parts.0 in
    let rest : scalars (map shown cs) ≡ true = all_scalar cs parts.1 in
    rw (first, rest) refl

shown-utf8 : (modifier : List ℕ) → IsUtf8 modifier → IsUtf8 (map shown modifier)
shown-utf8 modifier h = (map shown h.0, (all_scalar h.0 h.1.0, sym (all_chars h.0) ∙ ap (map shown) h.1.1))

ascii_literal : (xs : List ℕ) → list_all (λ b. nat_lt b 128) xs ≡ true → IsUtf8 xs
ascii_literal xs h = IsUtf8-from_ascii xs (IsAscii-from_tests xs h)

eight_utf8 : (a b c d e f g h : List ℕ) → IsUtf8 a → IsUtf8 b → IsUtf8 c → IsUtf8 d → IsUtf8 e → IsUtf8 f → IsUtf8 g → IsUtf8 h
    → IsUtf8 (a ++ b ++ c ++ d ++ e ++ f ++ g ++ h)
eight_utf8 a b c d e f g h pa pb pc pd pe pf pg ph =
    IsUtf8-append (a ++ b ++ c ++ d ++ e ++ f ++ g) h (IsUtf8-append (a ++ b ++ c ++ d ++ e ++ f) g (IsUtf8-append (a ++ b ++ c ++ d ++ e) f
    (IsUtf8-append (a ++ b ++ c ++ d) e (IsUtf8-append (a ++ b ++ c) d (IsUtf8-append (a ++ b) c (IsUtf8-append a b pa pb) pc) pd) pe) pf) pg) ph

pub naming-utf8 : (name modifier : List ℕ) (mtime : ℤ) (k : ℕ) → IsUtf8 name → IsUtf8 modifier → IsUtf8 (naming name modifier mtime k)
naming-utf8 name modifier mtime k n m =
    eight_utf8 (take (ext_at name) name) (codes " (SFConflict ") (map shown modifier) (32 ∷ []) (stamp (moment_of mtime)) (number_text k) (41 ∷ []) (drop (ext_at name) name)
    (IsUtf8-take name (ext_at name) n (ext_at-boundary name)) (ascii_literal (codes " (SFConflict ") refl) (shown-utf8 modifier m) (ascii_literal (32 ∷ []) refl)
    (IsUtf8-from_ascii (stamp (moment_of mtime)) (all-ascii (stamp (moment_of mtime)) (stamp-plain (moment_of mtime)))) (IsUtf8-from_ascii (number_text k) (all-ascii (number_text k) (number_text-plain k))) (ascii_literal (41 ∷ []) refl)
    (IsUtf8-drop name (ext_at name) n (ext_at-boundary name))

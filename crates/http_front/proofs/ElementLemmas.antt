-- The elements of a value, from the place up to which it was looked at.
use Rattle.std.proofs.Common.{◌≡◌, ℕ, ◌+◌, ◌<◌, ◌≤◌, Bool, true, false, cond, ◌||◌, ◌==◌, List, [], ◌∷◌, ◌++◌, ◌-◌, length, drop, get_or, get_or-drop, length-drop, slice_range, append_assoc, append-nil, refl, sym, ap, ◌∙◌, arith, inl, inr}
use Rattle.std.proofs.lemmas.List.{drop_more, take_more}
use Rattle.httparse.proofs.TrimLemmas.{slice_empty}
use Rattle.std.specs.List.{list_any}
use Rattle.std.proofs.lemmas.Bool.Decides.{eqb_tells}
use Rattle.http_front.specs.Fields.{with_first, elements}

-- the elements, where these bytes stand before the first
abbrev pub grown : List ℕ → List (List ℕ) → List (List ℕ)
grown front [] = front ∷ []
grown front (first ∷ more) = (front ++ first) ∷ more

-- one byte more of the first element
pub grown_byte : (front : List ℕ) (byte : ℕ) (parts : List (List ℕ)) → grown front (with_first byte parts) ≡ grown (front ++ byte ∷ []) parts
grown_byte front byte [] = refl
grown_byte front byte (first ∷ more) = ap (λ f. f ∷ more) (sym (append_assoc front (byte ∷ []) first))

-- there is always a first element
with_first_grown : (byte : ℕ) (parts : List (List ℕ)) → grown [] (with_first byte parts) ≡ with_first byte parts
with_first_grown byte [] = refl
with_first_grown byte (first ∷ more) = refl

pub grown_none : (value : List ℕ) → grown [] (elements value) ≡ elements value
grown_none [] = refl
grown_none (byte ∷ value) = by_comma (byte == 44)
  where
    by_comma : (comma : Bool) → grown [] (cond comma ([] ∷ elements value) (with_first byte (elements value)))
        ≡ cond comma ([] ∷ elements value) (with_first byte (elements value))
    by_comma true = refl
    by_comma false = with_first_grown byte (elements value)

-- whether some part passes, with the parts from a byte on
abbrev pub passes : (List ℕ → Bool) → List ℕ → List ℕ → Bool
passes test front value = list_any test (grown front (elements value))

-- at a comma a part ends
pub passes_comma : (test : List ℕ → Bool) (front : List ℕ) (byte : ℕ) (value : List ℕ) → byte ≡ 44
    → passes test front (byte ∷ value) ≡ (test front || passes test [] value)
passes_comma test front byte value comma =
    rw (comma, append-nil front, grown_none value)

-- any other byte belongs to the part
pub passes_byte : (test : List ℕ → Bool) (front : List ℕ) (byte : ℕ) (value : List ℕ) → (byte == 44) ≡ false
    → passes test front (byte ∷ value) ≡ passes test (front ++ byte ∷ []) value
passes_byte test front byte value other =
    rw other (ap (list_any test) (grown_byte front byte (elements value)))

-- at the end the last part ends
pub passes_end : (test : List ℕ → Bool) (front : List ℕ) → passes test front [] ≡ test front
passes_end test front = rw (append-nil front) (or_false (test front))
  where
    or_false : (b : Bool) → (b || false) ≡ b
    or_false true = refl
    or_false false = refl

-- ---- the steps of a loop over the bytes

pub test_fails : (a b : ℕ) → (a ≡ b → ⊥) → (a == b) ≡ false
test_fails a b other = elim (eqb_tells a b) [ inl h ↦ absurd (other h.1) | inr h ↦ h.0 ]

part_more : (value : List ℕ) (start i : ℕ) → start ≤ i → i < length value
    → slice_range value start (i + 1) ≡ slice_range value start i ++ get_or value i 0 ∷ []
part_more value start i before inside =
    let n = i - start in
    let len : i + 1 - start ≡ n + 1 = omega arith in
    let place : start + n ≡ i = omega arith in
    let there : n < length (drop start value) = omega (arith, length-drop start value) in
    rw (len, take_more (drop start value) n 0 there, get_or-drop, place)

pub step_comma : (test : List ℕ → Bool) (value : List ℕ) (start i : ℕ) (all : Bool) → i < length value → get_or value i 0 ≡ 44
    → test (slice_range value start i) ≡ false → passes test (slice_range value start i) (drop i value) ≡ all
    → passes test (slice_range value (i + 1) (i + 1)) (drop (i + 1) value) ≡ all
step_comma test value start i all inside comma fails so_far =
    let rest : drop i value ≡ get_or value i 0 ∷ drop (i + 1) value = drop_more value i 0 inside in
    let none : slice_range value (i + 1) (i + 1) ≡ [] = slice_empty value (i + 1) (i + 1) refl (omega arith) in
    let here = passes_comma test (slice_range value start i) (get_or value i 0) (drop (i + 1) value) comma in
    ap (λ f. passes test f (drop (i + 1) value)) none
    ∙ sym (here ∙ ap (λ b. b || passes test [] (drop (i + 1) value)) fails)
    ∙ sym (ap (λ (v : List ℕ). passes test (slice_range value start i) v) rest) ∙ so_far

pub step_byte : (test : List ℕ → Bool) (value : List ℕ) (start i : ℕ) (all : Bool) → start ≤ i → i < length value
    → (get_or value i 0 == 44) ≡ false → passes test (slice_range value start i) (drop i value) ≡ all
    → passes test (slice_range value start (i + 1)) (drop (i + 1) value) ≡ all
step_byte test value start i all before inside other so_far =
    let rest : drop i value ≡ get_or value i 0 ∷ drop (i + 1) value = drop_more value i 0 inside in
    ap (λ (f : List ℕ). passes test f (drop (i + 1) value)) (part_more value start i before inside)
    ∙ sym (passes_byte test (slice_range value start i) (get_or value i 0) (drop (i + 1) value) other)
    ∙ sym (ap (λ (v : List ℕ). passes test (slice_range value start i) v) rest) ∙ so_far

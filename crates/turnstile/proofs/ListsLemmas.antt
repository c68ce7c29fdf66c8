-- Lists that begin other lists, and books that have a place once. The key lemmas are prefix_between and IsOnce-append.
use Rattle.std.proofs.Common.{◌≡◌, ℕ, ◌≤◌, ◌⊎◌, ⊎_elim, inl, inr, true, false, List, [], ◌∷◌, ◌++◌, length, refl, sym, ◌∙◌, ap, append_assoc, length-append, arith}
use Rattle.std.specs.Prelude.{nat_lt, if◌then◌else◌}
use Rattle.std.proofs.lemmas.List.{append-nil}
use Rattle.std.proofs.lemmas.Bool.Decides.{nat_tests}
use mathlib.Core.List.{IsPrefix}
use Rattle.turnstile.specs.Lists.{Has, IsOnce, longer, shorter}

module _ {A : Type 0} where
  pub prefix_refl : (xs : List A) → IsPrefix xs xs
  prefix_refl xs = ([], append-nil xs)

  pub prefix_trans : (xs ys zs : List A) → IsPrefix xs ys → IsPrefix ys zs → IsPrefix xs zs
  prefix_trans xs ys zs a b = (a.0 ++ b.0, sym (append_assoc xs a.0 b.0) ∙ (ap (λ l. l ++ b.0) a.1 ∙ b.1))

  pub prefix_length : (xs ys : List A) → IsPrefix xs ys → length xs ≤ length ys
  prefix_length xs ys a = omega (arith, length-append xs a.0, ap length a.1)

  -- of two beginnings of one list the shorter begins the longer
  pub prefix_between : (xs ys zs : List A) → IsPrefix xs zs → IsPrefix ys zs → length xs ≤ length ys → IsPrefix xs ys
  prefix_between [] ys zs a b short = (ys, refl)
  prefix_between (x ∷ xs) [] zs a b short = absurd (omega arith)
  prefix_between (x ∷ xs) (y ∷ ys) [] a b short = let e = a.1 in absurd (cc)
  prefix_between (x ∷ xs) (y ∷ ys) (z ∷ zs) a b short =
      let p = a.1 in
      let q = b.1 in
      let p' : xs ++ a.0 ≡ zs = cc in
      let q' : ys ++ b.0 ≡ zs = cc in
      let r = prefix_between xs ys zs (a.0, p') (b.0, q') (omega arith) in
      let e = r.1 in
      let same : x ≡ y = cc in
      (r.0, cc)

  pub prefix_whole : (xs ys : List A) → IsPrefix xs ys → length ys ≤ length xs → xs ≡ ys
  prefix_whole [] [] a long = refl
  prefix_whole [] (y ∷ ys) a long = absurd (omega arith)
  prefix_whole (x ∷ xs) [] a long = let e = a.1 in cc
  prefix_whole (x ∷ xs) (y ∷ ys) a long =
      let e = a.1 in
      let e' : xs ++ a.0 ≡ ys = cc in
      let r = prefix_whole xs ys (a.0, e') (omega arith) in
      let same : x ≡ y = cc in
      cc

  -- the longer and the shorter of two lists, by cases
  pub longer_by : (P : List A → Type 0) (xs ys : List A) → P xs → P ys → P (longer xs ys)
  longer_by P xs ys a b = elim (nat_lt (length xs) (length ys)) as (λ t. P (if t then ys else xs)) [ true ↦ b | false ↦ a ]

  pub shorter_by : (P : List A → Type 0) (xs ys : List A) → P xs → P ys → P (shorter xs ys)
  shorter_by P xs ys a b = elim (nat_lt (length xs) (length ys)) as (λ t. P (if t then xs else ys)) [ true ↦ a | false ↦ b ]

  pub longer-left : (xs ys : List A) → length xs ≤ length (longer xs ys)
  longer-left xs ys = grind (arith, nat_tests)

  pub longer-right : (xs ys : List A) → length ys ≤ length (longer xs ys)
  longer-right xs ys = grind (arith, nat_tests)

  pub shorter-longer : (xs ys : List A) → length (shorter xs ys) ≤ length (longer xs ys)
  shorter-longer xs ys = grind (arith, nat_tests)

pub Has-left : (p : ℕ) (xs ys : List ℕ) → Has p xs → Has p (xs ++ ys)
Has-left p [] ys h = absurd h
Has-left p (x ∷ xs) ys h = ⊎_elim (λ e. inl e) (λ t. inr (Has-left p xs ys t)) h

pub Has-right : (p : ℕ) (xs ys : List ℕ) → Has p ys → Has p (xs ++ ys)
Has-right p [] ys h = h
Has-right p (x ∷ xs) ys h = inr (Has-right p xs ys h)

pub Has-append : (p : ℕ) (xs ys : List ℕ) → Has p (xs ++ ys) → Has p xs ⊎ Has p ys
Has-append p [] ys h = inr h
Has-append p (x ∷ xs) ys h = ⊎_elim (λ e. inl (inl e)) (λ t. ⊎_elim (λ l. inl (inr l)) (λ r. inr r) (Has-append p xs ys t)) h

-- two books with no place in common make one
pub IsOnce-append : (xs ys : List ℕ) → IsOnce xs → IsOnce ys → ((p : ℕ) → Has p xs → Has p ys → ⊥) → IsOnce (xs ++ ys)
IsOnce-append [] ys a b apart = b
IsOnce-append (x ∷ xs) ys a b apart = (
  (λ h. ⊎_elim (λ l. a.0 l) (λ r. apart x (inl refl) r) (Has-append x xs ys h)),
  IsOnce-append xs ys a.1 b (λ p l r. apart p (inr l) r),
)

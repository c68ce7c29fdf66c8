-- A secret that is looked for among tokens, one after another. The key lemmas are shown_at, not_yet, found_there,
-- none_there and head_permitted.
use Rattle.std.proofs.Common.{◌≡◌, ℕ, zero, suc, ◌+◌, ◌≤◌, ◌<◌, Bool, true, false, cond, nat_le, List, [], ◌∷◌, ◌++◌, length, take, refl, sym, ap, ◌∙◌, arith, zero-le, Option, None, Some, option_map}
use Rattle.std.specs.List.{find, slice_get}
use Rattle.std.specs.Option.{option_or}
use Rattle.std.specs.Str.{bytes_eq}
use Rattle.std.proofs.lemmas.List.{take_all, take_more}
use Rattle.std.proofs.lemmas.List.Folds.{find-append}
use Rattle.std.proofs.lemmas.Option.{get_or_from_slice_get, slice_get_within}
use Rattle.depot.specs.Answering.{permits}
use Rattle.depot.specs.Tokens.{token_shown}
use Rattle.library_rules.specs.Calls.{token_of}
use Rattle.library_state.specs.Rights.{right_number}
use Rattle.library_state.specs.declared.call.Act.TheVariants as act
use Rattle.library_state.specs.declared.right.Right.{Right}
use Rattle.library_state.specs.declared.right.Right.TheVariants.{Read, Write, Owner}
use Rattle.library_state.specs.declared.token.Token.{Token}

-- the token of which a secret and a right are shown
pub shown_at : (tokens : List Token) (n : ℕ) (held : List ℕ × Right) → Some held ≡ token_shown tokens n → (t : Token) × (slice_get tokens n ≡ Some t) × (t.secret ≡ held.0)
shown_at tokens n held is = by (slice_get tokens n) refl is
  where
    shown_of : Token → List ℕ × Right
    shown_of token = (token.secret, token.right)

    pair_same : {A : Type 0} {x y : A} → Some x ≡ Some y → x ≡ y
    pair_same e = cc

    by : (o : Option Token) → slice_get tokens n ≡ o → Some held ≡ option_map shown_of o → (t : Token) × (slice_get tokens n ≡ Some t) × (t.secret ≡ held.0)
    by None at same = cc same
    by (Some t) at same = (t, at, ap (λ (p : List ℕ × Right). p.0) (sym (pair_same same)))

pub none_at : (tokens : List Token) (n : ℕ) → None ≡ token_shown tokens n → slice_get tokens n ≡ None
none_at tokens n is = by (slice_get tokens n) is
  where
    by : (o : Option Token) → ◌≡◌ {A = Option (List ℕ × Right)} None (option_map (λ (token : Token). (token.secret, token.right)) o) → o ≡ None
    by None same = refl
    by (Some t) same = cc same

-- the first tokens, and one more
taken_more : (tokens : List Token) (n : ℕ) (t : Token) → slice_get tokens n ≡ Some t → take (n + 1) tokens ≡ take n tokens ++ t ∷ []
taken_more tokens n t at =
    take_more tokens n t (slice_get_within tokens n t at) ∙ ap (λ x. take n tokens ++ x ∷ []) (get_or_from_slice_get tokens n t t at)

-- it hasn't the secret
pub not_yet : (tokens : List Token) (n : ℕ) (t : Token) (secret : List ℕ) → slice_get tokens n ≡ Some t → bytes_eq secret t.secret ≡ false
    → token_of (take n tokens) (Some secret) ≡ None → token_of (take (n + 1) tokens) (Some secret) ≡ None
not_yet tokens n t secret at other none =
    ap (λ ts. token_of ts (Some secret)) (taken_more tokens n t at)
    ∙ (find-append (λ (token : Token). bytes_eq secret token.secret) (take n tokens) (t ∷ [])
    ∙ (ap (λ (o : Option Token). option_or o (token_of (t ∷ []) (Some secret))) none ∙ ap (λ b. cond b (Some t) None) other))

-- it has, and so the first of more tokens that has it is this one
pub found_there : (tokens : List Token) (n m : ℕ) (t : Token) (secret : List ℕ) → slice_get tokens n ≡ Some t → bytes_eq secret t.secret ≡ true → n < m
    → token_of (take n tokens) (Some secret) ≡ None → token_of (take m tokens) (Some secret) ≡ Some t
found_there [] n m t secret at same below none = cc at
found_there (x ∷ tokens) zero zero t secret at same below none = absurd (omega (arith, below))
found_there (x ∷ tokens) zero (suc m) t secret at same below none = by (sym (first_same at))
  where
    first_same : Some x ≡ Some t → x ≡ t
    first_same e = cc

    by : t ≡ x → token_of (take (suc m) (x ∷ tokens)) (Some secret) ≡ Some t
    by is = ap (λ b. cond b (Some x) (token_of (take m tokens) (Some secret))) (ap (λ (y : Token). bytes_eq secret y.secret) (sym is) ∙ same) ∙ ap Some (sym is)
found_there (x ∷ tokens) (suc n) zero t secret at same below none = absurd (omega (arith, below))
found_there (x ∷ tokens) (suc n) (suc m) t secret at same below none =
    by (bytes_eq secret x.secret) refl (λ deeper. found_there tokens n m t secret at same (omega (arith, below)) deeper)
  where
    by : (b : Bool) → bytes_eq secret x.secret ≡ b → (token_of (take n tokens) (Some secret) ≡ None → token_of (take m tokens) (Some secret) ≡ Some t)
        → token_of (take (suc m) (x ∷ tokens)) (Some secret) ≡ Some t
    by true is later = let first : cond true (Some x) (token_of (take n tokens) (Some secret)) ≡ None = ap (λ b. cond b (Some x) (token_of (take n tokens) (Some secret))) (sym is) ∙ none in cc first
    by false is later =
        ap (λ b. cond b (Some x) (token_of (take m tokens) (Some secret))) is
        ∙ later (ap (λ b. cond b (Some x) (token_of (take n tokens) (Some secret))) (sym is) ∙ none)

-- there are no more
pub none_there : (tokens : List Token) (n m : ℕ) (secret : List ℕ) → slice_get tokens n ≡ None → n ≤ m → token_of (take n tokens) (Some secret) ≡ None
    → token_of (take m tokens) (Some secret) ≡ None
none_there tokens n m secret past most none = by (short tokens n past)
  where
    short : (ts : List Token) (k : ℕ) → slice_get ts k ≡ None → length ts ≤ k
    short [] k is = zero-le
    short (x ∷ ts) zero is = cc is
    short (x ∷ ts) (suc k) is = let less = short ts k is in omega (arith, less)

    by : length tokens ≤ n → token_of (take m tokens) (Some secret) ≡ None
    by few = ap (λ ts. token_of ts (Some secret)) (take_all m tokens (omega (arith, few, most)) ∙ sym (take_all n tokens few)) ∙ none

-- each token may ask for the head
pub head_permitted : (t : Token) → permits (Some t) act.Head ≡ true
head_permitted t = by t.right
  where
    by : (r : Right) → nat_le 0 (right_number r) ≡ true
    by Read = refl
    by Write = refl
    by Owner = refl

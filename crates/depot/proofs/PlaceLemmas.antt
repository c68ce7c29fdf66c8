-- The first token of a secret, by its place. The key lemmas are place_token, place_marked, place_absent, marked_moves and token_asked.
use Rattle.std.proofs.Common.{◌≡◌, ◌≢◌, ℕ, zero, suc, ◌<◌, false, cond, if◌then◌else◌, List, [], ◌∷◌, length, refl, sym, ap, ◌∙◌, arith, Option, None, Some}
use Rattle.std.specs.Prelude.{slice_index_or}
use Rattle.std.specs.Str.{bytes_eq}
use Rattle.library_rules.specs.Calls.{may, token_of}
use Rattle.library_rules.specs.Changes.{seen_by, with_last}
use Rattle.library_state.specs.declared.right.Right.TheVariants.{Read}
use Rattle.library_state.specs.declared.state.LibState.{LibState}
use Rattle.library_state.specs.declared.token.Token.{Token}
use Rattle.library_state.specs.declared.call.Act.{Act}
use Rattle.depot.specs.Answering.{MayAsk, permits}
use Rattle.depot.specs.Changing.{IsPlaceOf, marked}

-- ---- a token further on

tail_place : (t : Token) (tokens : List Token) (secret : List ℕ) (place : ℕ) → IsPlaceOf (t ∷ tokens) secret (suc place) → IsPlaceOf tokens secret place
tail_place t tokens secret place at = record {
  within = less at.within;
  is = at.is;
  first = λ k d below. at.first (suc k) d (more k place below);
}
  where
    less : suc place < suc (length tokens) → place < length tokens
    less below = omega arith

    more : (k n : ℕ) → k < n → suc k < suc n
    more k n below = omega arith

not_first : (t : Token) (tokens : List Token) (secret : List ℕ) (place : ℕ) → IsPlaceOf (t ∷ tokens) secret (suc place) → bytes_eq secret t.secret ≡ false
not_first t tokens secret place at = at.first zero t (positive place)
  where
    positive : (n : ℕ) → zero < suc n
    positive n = omega arith

-- the token of the secret is the one at the place
pub place_token : (tokens : List Token) (secret : List ℕ) (place : ℕ) (d : Token) → IsPlaceOf tokens secret place → token_of tokens (Some secret) ≡ Some (slice_index_or tokens place d)
place_token [] secret place d at = absurd (none place at.within)
  where
    none : (n : ℕ) → n < length {A = Token} [] → ⊥
    none n below = omega arith
place_token (t ∷ tokens) secret zero d at = ap (λ b. cond b (Some t) (token_of tokens (Some secret))) (at.is t)
place_token (t ∷ tokens) secret (suc place) d at =
    ap (λ b. cond b (Some t) (token_of tokens (Some secret))) (not_first t tokens secret place at) ∙ place_token tokens secret place d (tail_place t tokens secret place at)

-- the first token of the secret is told of the collection
pub place_marked : (tokens : List Token) (secret : List ℕ) (place collection : ℕ) (d : Token) → IsPlaceOf tokens secret place
    → with_last secret collection tokens ≡ marked place collection tokens d
place_marked [] secret place collection d at = absurd (none place at.within)
  where
    none : (n : ℕ) → n < length {A = Token} [] → ⊥
    none n below = omega arith
place_marked (t ∷ tokens) secret zero collection d at =
    ap (λ b. if b then record t { last = collection } ∷ tokens else t ∷ with_last secret collection tokens) (at.is t)
place_marked (t ∷ tokens) secret (suc place) collection d at =
    ap (λ b. if b then record t { last = collection } ∷ tokens else t ∷ with_last secret collection tokens) (not_first t tokens secret place at)
    ∙ ap (λ ts. t ∷ ts) (place_marked tokens secret place collection d (tail_place t tokens secret place at))

-- without such a token the secret is none's
pub place_absent : (tokens : List Token) (secret : List ℕ) → ((k : ℕ) (d : Token) → k < length tokens → bytes_eq secret (slice_index_or tokens k d).secret ≡ false)
    → token_of tokens (Some secret) ≡ None
place_absent [] secret none = refl
place_absent (t ∷ tokens) secret none =
    ap (λ b. cond b (Some t) (token_of tokens (Some secret))) (none zero t (positive (length tokens)))
    ∙ place_absent tokens secret (λ k d below. none (suc k) d (more k (length tokens) below))
  where
    positive : (n : ℕ) → zero < suc n
    positive n = omega arith

    more : (k n : ℕ) → k < n → suc k < suc n
    more k n below = omega arith

-- ---- marking a token

-- a token that was told of this collection already is as it was
pub marked_again : (tokens : List Token) (place collection : ℕ) (d : Token) → place < length tokens → (slice_index_or tokens place d).last ≡ collection
    → marked place collection tokens d ≡ tokens
marked_again [] place collection d within is = absurd (none place within)
  where
    none : (n : ℕ) → n < length {A = Token} [] → ⊥
    none n below = omega arith
marked_again (t ∷ tokens) zero collection d within is = ap (λ k. record t { last = k } ∷ tokens) (sym is)
marked_again (t ∷ tokens) (suc place) collection d within is = ap (λ ts. t ∷ ts) (marked_again tokens place collection d (less within) is)
  where
    less : suc place < suc (length tokens) → place < length tokens
    less below = omega arith

-- another one isn't
pub marked_moves : (tokens : List Token) (place collection : ℕ) (d : Token) → place < length tokens → (slice_index_or tokens place d).last ≢ collection
    → marked place collection tokens d ≢ tokens
marked_moves [] place collection d within other e = none place within
  where
    none : (n : ℕ) → n < length {A = Token} [] → ⊥
    none n below = omega arith
marked_moves (t ∷ tokens) zero collection d within other e = other (sym (ap last_at e))
  where
    last_at : List Token → ℕ
    last_at [] = 0
    last_at (t ∷ tokens) = t.last
marked_moves (t ∷ tokens) (suc place) collection d within other e = marked_moves tokens place collection d (less within) other (ap rest e)
  where
    less : suc place < suc (length tokens) → place < length tokens
    less below = omega arith

    rest : List Token → List Token
    rest [] = []
    rest (t ∷ tokens) = tokens

-- what was marked is marked back
pub marked_back : (tokens : List Token) (place collection : ℕ) (d e : Token) → place < length tokens
    → marked place (slice_index_or tokens place d).last (marked place collection tokens d) e ≡ tokens
marked_back [] place collection d e within = absurd (none place within)
  where
    none : (n : ℕ) → n < length {A = Token} [] → ⊥
    none n below = omega arith
marked_back (t ∷ tokens) zero collection d e within = refl
marked_back (t ∷ tokens) (suc place) collection d e within = ap (λ ts. t ∷ ts) (marked_back tokens place collection d e (less within))
  where
    less : suc place < suc (length tokens) → place < length tokens
    less below = omega arith

-- the state of which a token was marked, and marked back
pub marked_undone : (before settled written : LibState) (place : ℕ) (d : Token) (marked_now last slice : List Token) → place < length before.tokens → settled ≡ before
    → slice ≡ before.tokens → marked_now ≡ marked place settled.collection settled.tokens d → written ≡ record settled { tokens = marked_now }
    → last ≡ marked place (slice_index_or slice place d).last written.tokens d → record written { tokens = last } ≡ before
marked_undone before settled written place d marked_now last slice within stays sliced mark writes back =
    ap (λ (tokens : List Token). record written { tokens = tokens }) back
    ∙ ap (λ (state : LibState). record state { tokens = marked place (slice_index_or slice place d).last state.tokens d }) writes
    ∙ ap (λ (tokens : List Token). record settled { tokens = marked place (slice_index_or slice place d).last tokens d }) mark
    ∙ ap (λ (state : LibState). record state { tokens = marked place (slice_index_or slice place d).last (marked place state.collection state.tokens d) d }) stays
    ∙ ap (λ (tokens : List Token). record before { tokens = marked place (slice_index_or tokens place d).last (marked place before.collection before.tokens d) d }) sliced
    ∙ ap (λ (tokens : List Token). record before { tokens = tokens }) (marked_back before.tokens place before.collection d d within)

pub marked_length : (tokens : List Token) (place collection : ℕ) (d : Token) → place < length tokens → length (marked place collection tokens d) ≡ length tokens
marked_length [] place collection d within = absurd (none place within)
  where
    none : (n : ℕ) → n < length {A = Token} [] → ⊥
    none n below = omega arith
marked_length (t ∷ tokens) zero collection d within = refl
marked_length (t ∷ tokens) (suc place) collection d within = ap suc (marked_length tokens place collection d (less within))
  where
    less : suc place < suc (length tokens) → place < length tokens
    less below = omega arith

-- ---- the secret of a call

-- any token, where a place has one
pub no_token : Token
no_token = record { secret = []; user = []; right = Read; last = 0 }

-- the token that a call shows is told of the collection
pub seen_asked : (secret : Option (List ℕ)) (a : Act) (tokens : List Token) (place collection : ℕ) (d : Token) → MayAsk tokens secret a place
    → seen_by secret collection tokens ≡ marked place collection tokens d
seen_asked secret a tokens place collection d who =
    ap (λ o. seen_by o collection tokens) who.shown ∙ place_marked tokens who.digits place collection d who.at

-- it is the one at the place
pub token_asked : (secret : Option (List ℕ)) (a : Act) (tokens : List Token) (place : ℕ) (d : Token) → MayAsk tokens secret a place
    → token_of tokens secret ≡ Some (slice_index_or tokens place d)
token_asked secret a tokens place d who = ap (token_of tokens) who.shown ∙ place_token tokens who.digits place d who.at

-- whether one may is told by the token at the place
pub permits_at : (tokens : List Token) (secret : Option (List ℕ)) (digits : List ℕ) (a : Act) (place : ℕ) (d : Token) → secret ≡ Some digits → IsPlaceOf tokens digits place
    → permits (token_of tokens secret) a ≡ may (slice_index_or tokens place d) a
permits_at tokens secret digits a place d shown at =
    ap (λ o. permits (token_of tokens o) a) shown ∙ ap (λ o. permits o a) (place_token tokens digits place d at)

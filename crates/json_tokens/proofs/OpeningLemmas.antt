-- What the first token tells of a value. The key lemmas are front-object, front-array and front-text.
use Rattle.std.proofs.Common.{◌≡◌, ℕ, zero, suc, Bool, true, false, List, [], ◌∷◌, length, Option, Some, None, option_map, is_some, refl, sym, ap, ◌∙◌, subst}
use Rattle.std.proofs.lemmas.Bool.{false≢true}
use Rattle.std.specs.Bool.{MatchBool}
use Rattle.ids.proofs.BasicLemmas.{none_from_is_some}
use Rattle.json.specs.Json.{Parse, parse_map, items, members, value, value_with}
use Rattle.json.specs.Json as json
use Rattle.json.specs.Token.{Token}
use Rattle.serde_json.specs.Data.{Data, null, boolean, number, string, array, object, no_members}
use Rattle.serde_json.specs.Find.{as_array, as_str}
use Rattle.serde_json.specs.Read.{of_json, of_items, of_members, number_of}
use Rattle.json_words.specs.Fields.{is_object}
use Rattle.json_tokens.specs.Front.{FrontIs}
use Rattle.json_tokens.specs.Opening.{is_begin_array, is_begin_object, text_in}
use Rattle.json_tokens.proofs.ConvertedLemmas.{converted_some}
use Rattle.json_tokens.proofs.FrontLemmas.{NoFront-end}

abbrev pick : {A : Type 0} → A → Option A → A
pick d None = d
pick d (Some a) = a

-- What the first token tells of a value: whether it is an array, whether it is an object, and its text.
abbrev Seen : Type 0
Seen = Bool × Bool × Option (List ℕ)

abbrev seen : Data → Seen
seen d = (is_some (as_array d), is_object d, as_str d)

abbrev seen_token : Token → Seen
seen_token t = (is_begin_array t, is_begin_object t, text_in t)

abbrev plain : Seen
plain = (false, false, None)

abbrev seen_json : json.Json → Seen
seen_json json.null = plain
seen_json (json.boolean b) = plain
seen_json (json.number s) = plain
seen_json (json.string s) = (false, false, Some s)
seen_json (json.array js) = (true, false, None)
seen_json (json.object ms) = (false, true, None)

-- what every value of a form passes, the value that was made has
made : {A B C : Type 0} (f : A → B) (test : B → C) (b : C) (o : Option A) (d : B) → ((a : A) → test (f a) ≡ b) → option_map f o ≡ Some d → test d ≡ b
made f test b None d each e = absurd (cc)
made f test b (Some a) d each e = sym (ap test (ap (pick (f a)) e)) ∙ each a

one : {B C : Type 0} (test : B → C) (x d : B) → Some x ≡ Some d → test d ≡ test x
one test x d e = sym (ap test (ap (pick x) e))

first : (p q : json.Json × List Token) → Some p ≡ Some q → p.0 ≡ q.0
first p q e =
    let same : p ≡ q = ap (pick p) e in
    ap (λ (o : json.Json × List Token). o.0) same

parsed : {A C : Type 0} (f : A → json.Json) (test : json.Json → C) (b : C) (o : Option (A × List Token)) (j : json.Json) (r : List Token)
    → ((a : A) → test (f a) ≡ b) → parse_map f o ≡ Some (j, r) → test j ≡ b
parsed f test b None j r each e = absurd (cc)
parsed f test b (Some p) j r each e = sym (ap test (first (f p.0, p.1) (j, r) e)) ∙ each p.0

parsed_one : {C : Type 0} (test : json.Json → C) (p q : json.Json × List Token) → Some p ≡ Some q → test q.0 ≡ test p.0
parsed_one test p q e = sym (ap test (first p q e))

of_json-seen : (j : json.Json) (d : Data) → of_json j ≡ Some d → seen d ≡ seen_json j
of_json-seen json.null d e = one seen null d e
of_json-seen (json.boolean b) d e = one seen (boolean b) d e
of_json-seen (json.number s) d e = made number seen plain (number_of s) d (λ n. refl) e
of_json-seen (json.string s) d e = one seen (string s) d e
of_json-seen (json.array js) d e = made array seen (true, false, None) (of_items js) d (λ ds. refl) e
of_json-seen (json.object ms) d e = made object seen (false, true, None) (of_members ms no_members) d (λ found. refl) e

module _ (a : Parse json.Items) (o : Parse json.Members) (j : json.Json) (r : List Token) where
  token-seen : (t : Token) (ts : List Token) → value_with a o (t ∷ ts) ≡ Some (j, r) → seen_json j ≡ seen_token t
  token-seen Token.begin_object ts e = parsed json.object seen_json (false, true, None) (o ts) j r (λ ms. refl) e
  token-seen Token.end_object ts e = absurd (cc)
  token-seen Token.begin_array ts e = parsed json.array seen_json (true, false, None) (a ts) j r (λ js. refl) e
  token-seen Token.end_array ts e = absurd (cc)
  token-seen (Token.key s) ts e = absurd (cc)
  token-seen (Token.string s) ts e = parsed_one seen_json ((json.string s), ts) (j, r) e
  token-seen (Token.number s) ts e = parsed_one seen_json ((json.number s), ts) (j, r) e
  token-seen (Token.boolean b) ts e = parsed_one seen_json ((json.boolean b), ts) (j, r) e
  token-seen Token.null ts e = parsed_one seen_json (json.null, ts) (j, r) e
  token-seen Token.bad ts e = absurd (cc)

value-seen : (depth : ℕ) (j : json.Json) (r : List Token) (t : Token) (ts : List Token) → value depth (t ∷ ts) ≡ Some (j, r) → seen_json j ≡ seen_token t
unfolding value
value-seen zero j r t ts e = token-seen (λ s. None) (λ s. None) j r t ts e
value-seen (suc depth) j r t ts e = token-seen (λ s. items (value depth) (length s) s) (λ s. members (value depth) (length s) s) j r t ts e

-- a value shows what its first token does
pub front-seen : (depth : ℕ) (t : Token) (ts r : List Token) (d : Data) → FrontIs depth (t ∷ ts) d r → seen d ≡ seen_token t
front-seen depth t ts r d e =
    let j = converted_some of_json (value depth (t ∷ ts)) d r e in
    of_json-seen j.0 d j.2 ∙ value-seen depth j.0 r t ts j.1

-- an array begins with its bracket, and nothing else does
pub front-array : (depth : ℕ) (t : Token) (ts r : List Token) (d : Data) → FrontIs depth (t ∷ ts) d r → is_some (as_array d) ≡ is_begin_array t
front-array depth t ts r d e = ap (λ (shown : Seen). shown.0) (front-seen depth t ts r d e)

-- an object begins with its brace, and nothing else does
pub front-object : (depth : ℕ) (t : Token) (ts r : List Token) (d : Data) → FrontIs depth (t ∷ ts) d r → is_object d ≡ is_begin_object t
front-object depth t ts r d e = ap (λ (shown : Seen). shown.1) (front-seen depth t ts r d e)

-- a text is its token, and no other token is one
pub front-text : (depth : ℕ) (t : Token) (ts r : List Token) (d : Data) → FrontIs depth (t ∷ ts) d r → as_str d ≡ text_in t
front-text depth t ts r d e = ap (λ (shown : Seen). shown.2) (front-seen depth t ts r d e)

-- a value that begins with another token than a bracket is no array
pub no_array : (depth : ℕ) (t : Token) (ts r : List Token) (d : Data) → is_begin_array t ≡ false → FrontIs depth (t ∷ ts) d r → as_array d ≡ None
no_array depth t ts r d other is = none_from_is_some (as_array d) (front-array depth t ts r d is ∙ other)

the_brace : (t : Token) → is_begin_object t ≡ true → t ≡ Token.begin_object
the_brace Token.begin_object e = refl
the_brace Token.end_object e = absurd (false≢true e)
the_brace Token.begin_array e = absurd (false≢true e)
the_brace Token.end_array e = absurd (false≢true e)
the_brace (Token.key s) e = absurd (false≢true e)
the_brace (Token.string s) e = absurd (false≢true e)
the_brace (Token.number s) e = absurd (false≢true e)
the_brace (Token.boolean b) e = absurd (false≢true e)
the_brace Token.null e = absurd (false≢true e)
the_brace Token.bad e = absurd (false≢true e)

the_bracket : (t : Token) → is_begin_array t ≡ true → t ≡ Token.begin_array
the_bracket Token.begin_object e = absurd (false≢true e)
the_bracket Token.end_object e = absurd (false≢true e)
the_bracket Token.begin_array e = refl
the_bracket Token.end_array e = absurd (false≢true e)
the_bracket (Token.key s) e = absurd (false≢true e)
the_bracket (Token.string s) e = absurd (false≢true e)
the_bracket (Token.number s) e = absurd (false≢true e)
the_bracket (Token.boolean b) e = absurd (false≢true e)
the_bracket Token.null e = absurd (false≢true e)
the_bracket Token.bad e = absurd (false≢true e)

-- ---- what the first token tells of whatever value stands at the front

pub opens_object_by : (opens : Bool) (t : Token) (old new : List Token) → opens ≡ is_begin_object t → old ≡ t ∷ new
    → MatchBool opens (old ≡ Token.begin_object ∷ new) ((depth : ℕ) (d : Data) (rest : List Token) → FrontIs depth old d rest → is_object d ≡ false)
opens_object_by true t old new is first = first ∙ ap (λ s. s ∷ new) (the_brace t (sym is))
opens_object_by false t old new is first = λ depth d rest front. front-object depth t new rest d (subst (λ all. FrontIs depth all d rest) first front) ∙ sym is

pub opens_array_by : (opens : Bool) (t : Token) (old new : List Token) → opens ≡ is_begin_array t → old ≡ t ∷ new
    → MatchBool opens (old ≡ Token.begin_array ∷ new) ((depth : ℕ) (d : Data) (rest : List Token) → FrontIs depth old d rest → as_array d ≡ None)
opens_array_by true t old new is first = first ∙ ap (λ s. s ∷ new) (the_bracket t (sym is))
opens_array_by false t old new is first = λ depth d rest front. no_array depth t new rest d (sym is) (subst (λ all. FrontIs depth all d rest) first front)

-- no value stands at the end
pub opens_nothing : (P : Data → Type 0) (old : List Token) → old ≡ [] → (depth : ℕ) (d : Data) (rest : List Token) → FrontIs depth old d rest → P d
opens_nothing P old none depth d rest front =
    let never = sym (subst (λ all. FrontIs depth all d rest) none front) ∙ NoFront-end depth in
    absurd (cc)

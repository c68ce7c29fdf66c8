-- Reading the kept members of an object is reading them all, for whoever asks for known names alone.
-- Read get-kept and kept_members-put first.
use Rattle.std.proofs.Common.{◌≡◌, ℕ, List, [], ◌∷◌, Bool, Ok, true, false, cond, Option, Some, None, option_map, is_some, nat_cmp, Ordering, Less, Equal, Greater, refl, sym, ap, ◌∙◌, subst}
use Rattle.std.specs.Prelude.{⊤, option_and_then}
use Rattle.std.proofs.lemmas.Bool.{true≢false}
use Rattle.std.proofs.lemmas.Cmp.{nat_list_cmp_total}
use Rattle.std.specs.Cmp.Lexicographic.{slice_cmp}
use Rattle.std.specs.List.{list_any}
use Rattle.std.specs.Ordering.{match_ordering, ordering_reverse}
use Rattle.std.specs.Str.{bytes_eq}
use Rattle.ids.proofs.BasicLemmas.{same_from_slice_cmp}
use Rattle.json.specs.Json as json
use Rattle.json.specs.Json.{Parse, parse_map, value_with}
use Rattle.json.specs.Reads.{token_of}
use Rattle.json.specs.Token.{Token}
use Rattle.json.specs.declared.token.Token as kit
use Rattle.json.specs.declared.token.Token.TheVariants as variant
use Rattle.json.specs.declared.token.Token.TheVariants.{BeginObject, EndObject, BeginArray, EndArray, Key, String, Number, Null, Bad}
use Rattle.json.proofs.Grammar.{value_is}
use Rattle.serde_json.specs.Data.{Num, Data, null, boolean, number, string, array, object, Items, Members, no_members, member, put}
use Rattle.serde_json.specs.Read.{number_of, of_json, of_items, converted}
use Rattle.serde_json.specs.Find.{get, get_member, as_null, as_bool, as_number, as_str, as_array, as_u64, as_i64}
use Rattle.json_words.specs.Check.{◌>>=◌, ok_or, result_map}
use Rattle.json_words.specs.Fields.{is_object, list_of, unless_null, text_if, number_field, number_between, integer_field, text_field, array_field, optional_field, optional_text}
use Rattle.json_words.specs.IdText.{object_id_of, id_in, id_field}
use Rattle.json_words.specs.declared.fields.FieldFault.TheVariants.{Missing, WrongType}
use Rattle.json_tokens.specs.Front.{FrontIs}
use Rattle.json_tokens.specs.Kept.{emptied, kept_members, kept, put_kept}
use Rattle.json_tokens.proofs.ConvertedLemmas.{converted-array}

-- ---- what emptying leaves as it is

-- what the readers of a field look at in what was found
abbrev Looks : Type 0
Looks = Option ⊤ × Option Bool × Option Num × Option (List ℕ) × Bool

abbrev looks : Data → Looks
looks d = (as_null d, as_bool d, as_number d, as_str d, is_some (as_array d))

looks-emptied : (d : Data) → looks (emptied d) ≡ looks d
looks-emptied null = refl
looks-emptied (boolean b) = refl
looks-emptied (number n) = refl
looks-emptied (string text) = refl
looks-emptied (array ds) = refl
looks-emptied (object ms) = refl

pub as_null-emptied : (d : Data) → as_null (emptied d) ≡ as_null d
as_null-emptied d = ap (λ (l : Looks). l.0) (looks-emptied d)

pub as_bool-emptied : (d : Data) → as_bool (emptied d) ≡ as_bool d
as_bool-emptied d = ap (λ (l : Looks). l.1) (looks-emptied d)

pub as_number-emptied : (d : Data) → as_number (emptied d) ≡ as_number d
as_number-emptied d = ap (λ (l : Looks). l.2) (looks-emptied d)

pub as_str-emptied : (d : Data) → as_str (emptied d) ≡ as_str d
as_str-emptied d = ap (λ (l : Looks). l.3) (looks-emptied d)

pub is_array-emptied : (d : Data) → is_some (as_array (emptied d)) ≡ is_some (as_array d)
is_array-emptied d = ap (λ (l : Looks). l.4) (looks-emptied d)

pub is_object-kept : (known : List (List ℕ)) (d : Data) → is_object (kept known d) ≡ is_object d
is_object-kept known null = refl
is_object-kept known (boolean b) = refl
is_object-kept known (number n) = refl
is_object-kept known (string text) = refl
is_object-kept known (array ds) = refl
is_object-kept known (object ms) = refl

-- ---- what a field is read as, where what was found is emptied

number_at : (found : Option Data) → (ok_or (option_map emptied found) Missing >>= (λ d. ok_or (option_and_then as_u64 (as_number d)) WrongType)) ≡ (ok_or found Missing >>= (λ d. ok_or (option_and_then as_u64 (as_number d)) WrongType))
number_at None = refl
number_at (Some d) = ap (λ n. ok_or (option_and_then as_u64 n) WrongType) (as_number-emptied d)

integer_at : (found : Option Data) → (ok_or (option_map emptied found) Missing >>= (λ d. ok_or (option_and_then as_i64 (as_number d)) WrongType)) ≡ (ok_or found Missing >>= (λ d. ok_or (option_and_then as_i64 (as_number d)) WrongType))
integer_at None = refl
integer_at (Some d) = ap (λ n. ok_or (option_and_then as_i64 n) WrongType) (as_number-emptied d)

text_at : (found : Option Data) → (ok_or (option_map emptied found) Missing >>= (λ d. ok_or (as_str d) WrongType)) ≡ (ok_or found Missing >>= (λ d. ok_or (as_str d) WrongType))
text_at None = refl
text_at (Some d) = ap (λ text. ok_or text WrongType) (as_str-emptied d)

id_at : (found : Option Data) → (ok_or (option_map emptied found) Missing >>= (λ d. ok_or (id_in d) WrongType)) ≡ (ok_or found Missing >>= (λ d. ok_or (id_in d) WrongType))
unfolding id_in
id_at None = refl
id_at (Some d) = ap (λ text. ok_or (option_and_then object_id_of text) WrongType) (as_str-emptied d)

emptied_unless : (d : Data) → unless_null (emptied d) ≡ option_map emptied (unless_null d)
emptied_unless null = refl
emptied_unless (boolean b) = refl
emptied_unless (number n) = refl
emptied_unless (string text) = refl
emptied_unless (array ds) = refl
emptied_unless (object ms) = refl

optional_at : (found : Option Data) → option_and_then unless_null (option_map emptied found) ≡ option_map emptied (option_and_then unless_null found)
optional_at None = refl
optional_at (Some d) = emptied_unless d

text_if-emptied : (found : Option Data) → text_if (option_map emptied found) ≡ text_if found
text_if-emptied None = refl
text_if-emptied (Some d) = ap (λ text. ok_or text WrongType >>= (λ t. Ok (Some t))) (as_str-emptied d)

array_at : (d : Data) → (ok_or (as_array (emptied d)) WrongType >>= (λ ds. Ok (list_of ds))) ≡ result_map (λ _. []) (ok_or (as_array d) WrongType >>= (λ ds. Ok (list_of ds)))
array_at null = refl
array_at (boolean b) = refl
array_at (number n) = refl
array_at (string text) = refl
array_at (array ds) = refl
array_at (object ms) = refl

array_of : (found : Option Data) → (ok_or (option_map emptied found) Missing >>= (λ d. ok_or (as_array d) WrongType >>= (λ ds. Ok (list_of ds))))
    ≡ result_map (λ _. []) (ok_or found Missing >>= (λ d. ok_or (as_array d) WrongType >>= (λ ds. Ok (list_of ds))))
array_of None = refl
array_of (Some d) = array_at d

-- ---- a known name

module _ (known : List (List ℕ)) (name : List ℕ) (is_known : list_any (bytes_eq name) known ≡ true) where
  there : (o : Ordering) (k : List ℕ) (d : Data) (b : Bool) (found : Option Data) (rest : Members) → slice_cmp nat_cmp name k ≡ o → list_any (bytes_eq k) known ≡ b → get_member name rest ≡ option_map emptied found
      → get_member name (cond b (member k (emptied d) rest) rest) ≡ option_map emptied (match_ordering o found (Some d) found)
  there Less k d true found rest is kn later = rw is later
  there Less k d false found rest is kn later = later
  there Equal k d true found rest is kn later = rw is
  there Equal k d false found rest is kn later = absurd (true≢false (sym is_known ∙ ap (λ n. list_any (bytes_eq n) known) (same_from_slice_cmp name k is) ∙ kn))
  there Greater k d true found rest is kn later = rw is later
  there Greater k d false found rest is kn later = later

  pub get_member-kept : (ms : Members) → get_member name (kept_members known ms) ≡ option_map emptied (get_member name ms)
  get_member-kept no_members = refl
  get_member-kept (member k d ms) = there _ k d _ (get_member name ms) (kept_members known ms) refl refl (get_member-kept ms)

  -- what stands at a known name is kept, without what it holds
  pub get-kept : (d : Data) → get name (kept known d) ≡ option_map emptied (get name d)
  get-kept null = refl
  get-kept (boolean b) = refl
  get-kept (number n) = refl
  get-kept (string text) = refl
  get-kept (array ds) = refl
  get-kept (object ms) = get_member-kept ms

  -- each reader of a field reads the same of what is kept
  pub number_field-kept : (d : Data) → number_field name (kept known d) ≡ number_field name d
  unfolding number_field
  number_field-kept d = rw (get-kept d) (number_at (get name d))

  pub number_between-kept : (low high : ℕ) (d : Data) → number_between low high name (kept known d) ≡ number_between low high name d
  unfolding number_between
  number_between-kept low high d = rw (number_field-kept d)

  pub integer_field-kept : (d : Data) → integer_field name (kept known d) ≡ integer_field name d
  unfolding integer_field
  integer_field-kept d = rw (get-kept d) (integer_at (get name d))

  pub text_field-kept : (d : Data) → text_field name (kept known d) ≡ text_field name d
  unfolding text_field
  text_field-kept d = rw (get-kept d) (text_at (get name d))

  pub id_field-kept : (d : Data) → id_field name (kept known d) ≡ id_field name d
  unfolding id_field
  id_field-kept d = rw (get-kept d) (id_at (get name d))

  pub optional_field-kept : (d : Data) → optional_field name (kept known d) ≡ option_map emptied (optional_field name d)
  unfolding optional_field
  optional_field-kept d = rw (get-kept d) (optional_at (get name d))

  pub optional_text-kept : (d : Data) → optional_text name (kept known d) ≡ optional_text name d
  unfolding optional_text
  optional_text-kept d = rw (optional_field-kept d) (text_if-emptied (optional_field name d))

  -- an array is kept as one without items
  pub array_field-kept : (d : Data) → array_field name (kept known d) ≡ result_map (λ _. []) (array_field name d)
  unfolding array_field
  array_field-kept d = rw (get-kept d) (array_of (get name d))

-- ---- members that go in one after another

-- each key is above this one
abbrev pub AreAbove : List ℕ → Members → Type 0
AreAbove k no_members = ⊤
AreAbove k (member l e ms) = (slice_cmp nat_cmp k l ≡ Less) × AreAbove k ms

-- the keys ascend, as in what is read they do
abbrev pub IsSorted : Members → Type 0
IsSorted no_members = ⊤
IsSorted (member l e ms) = AreAbove l ms × IsSorted ms

AreAbove-further : (k l : List ℕ) (ms : Members) → slice_cmp nat_cmp k l ≡ Less → AreAbove l ms → AreAbove k ms
AreAbove-further k l no_members below above = tt
AreAbove-further k l (member m e ms) below above = (nat_list_cmp_total.trans k l m below above.0, AreAbove-further k l ms below above.1)

AreAbove-put_at : (o : Ordering) (j k l : List ℕ) (d e : Data) (ms : Members) → slice_cmp nat_cmp j k ≡ Less → slice_cmp nat_cmp j l ≡ Less → AreAbove j ms → AreAbove j (put k d ms)
    → AreAbove j (match_ordering o (member k d (member l e ms)) (member l d ms) (member l e (put k d ms)))
AreAbove-put_at Less j k l d e ms jk jl above later = (jk, (jl, above))
AreAbove-put_at Equal j k l d e ms jk jl above later = (jl, above)
AreAbove-put_at Greater j k l d e ms jk jl above later = (jl, later)

AreAbove-put : (j k : List ℕ) (d : Data) (ms : Members) → slice_cmp nat_cmp j k ≡ Less → AreAbove j ms → AreAbove j (put k d ms)
AreAbove-put j k d no_members jk above = (jk, tt)
AreAbove-put j k d (member l e ms) jk above = AreAbove-put_at (slice_cmp nat_cmp k l) j k l d e ms jk above.0 above.1 (AreAbove-put j k d ms jk above.1)

IsSorted-put_at : (o : Ordering) (k l : List ℕ) (d e : Data) (ms : Members) → slice_cmp nat_cmp k l ≡ o → AreAbove l ms → IsSorted ms → IsSorted (put k d ms)
    → IsSorted (match_ordering o (member k d (member l e ms)) (member l d ms) (member l e (put k d ms)))
IsSorted-put_at Less k l d e ms is above sorted later = ((is, AreAbove-further k l ms is above), (above, sorted))
IsSorted-put_at Equal k l d e ms is above sorted later = (above, sorted)
IsSorted-put_at Greater k l d e ms is above sorted later =
    let below : slice_cmp nat_cmp l k ≡ Less = nat_list_cmp_total.antisymm l k ∙ ap ordering_reverse is in
    (AreAbove-put l k d ms below above, later)

-- a member more leaves the keys ascending
pub IsSorted-put : (k : List ℕ) (d : Data) (ms : Members) → IsSorted ms → IsSorted (put k d ms)
IsSorted-put k d no_members sorted = (tt, tt)
IsSorted-put k d (member l e ms) sorted = IsSorted-put_at _ k l d e ms refl sorted.0 sorted.1 (IsSorted-put k d ms sorted.1)

put-first : (k : List ℕ) (d : Data) (ms : Members) → AreAbove k ms → put k d ms ≡ member k d ms
put-first k d no_members above = refl
put-first k d (member l e ms) above = rw above.0

module _ (known : List (List ℕ)) where
  AreAbove-kept_at : (b : Bool) (j k : List ℕ) (d : Data) (rest : Members) → slice_cmp nat_cmp j k ≡ Less → AreAbove j rest → AreAbove j (cond b (member k d rest) rest)
  AreAbove-kept_at true j k d rest jk above = (jk, above)
  AreAbove-kept_at false j k d rest jk above = above

  AreAbove-kept : (j : List ℕ) (ms : Members) → AreAbove j ms → AreAbove j (kept_members known ms)
  AreAbove-kept j no_members above = tt
  AreAbove-kept j (member k d ms) above = AreAbove-kept_at (list_any (bytes_eq k) known) j k (emptied d) (kept_members known ms) above.0 (AreAbove-kept j ms above.1)

  at_equal : (b c : Bool) (k l : List ℕ) (d e : Data) (rest : Members) → b ≡ c → slice_cmp nat_cmp k l ≡ Equal
      → cond c (member l d rest) rest ≡ cond b (put k d (cond c (member l e rest) rest)) (cond c (member l e rest) rest)
  at_equal true true k l d e rest same is = rw is
  at_equal true false k l d e rest same is = absurd (true≢false same)
  at_equal false true k l d e rest same is = absurd (true≢false (sym same))
  at_equal false false k l d e rest same is = refl

  at_greater : (b c : Bool) (k l : List ℕ) (d e : Data) (rest more : Members) → slice_cmp nat_cmp k l ≡ Greater → more ≡ cond b (put k d rest) rest
      → cond c (member l e more) more ≡ cond b (put k d (cond c (member l e rest) rest)) (cond c (member l e rest) rest)
  at_greater true true k l d e rest more is later = rw is (ap (member l e) later)
  at_greater true false k l d e rest more is later = later
  at_greater false true k l d e rest more is later = ap (member l e) later
  at_greater false false k l d e rest more is later = later

  kept_members-put_at : (o : Ordering) (k l : List ℕ) (d e : Data) (ms : Members) → slice_cmp nat_cmp k l ≡ o → AreAbove l ms → kept_members known (put k d ms) ≡ put_kept known k d (kept_members known ms)
      → kept_members known (match_ordering o (member k d (member l e ms)) (member l d ms) (member l e (put k d ms))) ≡ put_kept known k d (kept_members known (member l e ms))
  kept_members-put_at Less k l d e ms is above later =
      let all = kept_members known (member l e ms) in
      ap (λ here. cond (list_any (bytes_eq k) known) here all) (sym (put-first k (emptied d) all (AreAbove-kept k (member l e ms) (is, AreAbove-further k l ms is above))))
  kept_members-put_at Equal k l d e ms is above later =
      at_equal (list_any (bytes_eq k) known) (list_any (bytes_eq l) known) k l (emptied d) (emptied e) (kept_members known ms) (ap (λ n. list_any (bytes_eq n) known) (same_from_slice_cmp k l is)) is
  kept_members-put_at Greater k l d e ms is above later =
      at_greater (list_any (bytes_eq k) known) (list_any (bytes_eq l) known) k l (emptied d) (emptied e) (kept_members known ms) (kept_members known (put k d ms)) is later

  -- one member more, and what is kept then
  pub kept_members-put : (k : List ℕ) (d : Data) (ms : Members) → IsSorted ms → kept_members known (put k d ms) ≡ put_kept known k d (kept_members known ms)
  kept_members-put k d no_members sorted = refl
  kept_members-put k d (member l e ms) sorted = kept_members-put_at _ k l d e ms refl sorted.0 (kept_members-put k d ms sorted.1)

pub put_kept-known : (known : List (List ℕ)) (key : List ℕ) (d : Data) (ms : Members) → list_any (bytes_eq key) known ≡ true → put_kept known key d ms ≡ put key (emptied d) ms
put_kept-known known key d ms is = ap (λ b. cond b (put key (emptied d) ms) ms) is

pub put_kept-unknown : (known : List (List ℕ)) (key : List ℕ) (d : Data) (ms : Members) → list_any (bytes_eq key) known ≡ false → put_kept known key d ms ≡ ms
put_kept-unknown known key d ms is = ap (λ b. cond b (put key (emptied d) ms) ms) is

-- ---- what begins with another token than an object is kept as it is emptied

abbrev data_of : Data → Option (Data × List Token) → Data
data_of none None = none
data_of none (Some p) = p.0

module _ (known : List (List ℕ)) (d : Data) (new : List Token) where
  same_data : (e : Data) (rest : List Token) → ◌≡◌ {A = Option (Data × List Token)} (Some (e, rest)) (Some (d, new)) → kept known e ≡ emptied e → kept known d ≡ emptied d
  same_data e rest is same = subst (λ x. kept known x ≡ emptied x) (ap (data_of e) is) same

  number_kept : (n : Option Num) (rest : List Token) → option_map {U = Data × List Token} (λ b. (b, rest)) (option_map number n) ≡ Some (d, new) → kept known d ≡ emptied d
  number_kept None rest is = absurd (cc)
  number_kept (Some n) rest is = same_data (number n) rest is refl

  array_kept : (o : Option (Items × List Token)) → parse_map array o ≡ Some (d, new) → kept known d ≡ emptied d
  array_kept None is = absurd (cc)
  array_kept (Some p) is = same_data (array p.0) p.1 is refl

  token_kept : (arrays : Parse json.Items) (objects : Parse json.Members) (t : Token) (rest : List Token) → (t ≡ Token.begin_object → ⊥) → converted of_json (value_with arrays objects (t ∷ rest)) ≡ Some (d, new) → kept known d ≡ emptied d
  token_kept arrays objects Token.begin_object rest apart is = absurd (apart refl)
  token_kept arrays objects Token.end_object rest apart is = absurd (cc)
  token_kept arrays objects Token.begin_array rest apart is = array_kept (converted of_items (arrays rest)) (sym (converted-array (arrays rest)) ∙ is)
  token_kept arrays objects Token.end_array rest apart is = absurd (cc)
  token_kept arrays objects (Token.key key) rest apart is = absurd (cc)
  token_kept arrays objects (Token.string text) rest apart is = same_data (string text) rest is refl
  token_kept arrays objects (Token.number text) rest apart is = number_kept (number_of text) rest is
  token_kept arrays objects (Token.boolean b) rest apart is = same_data (boolean b) rest is refl
  token_kept arrays objects Token.null rest apart is = same_data null rest is refl
  token_kept arrays objects Token.bad rest apart is = absurd (cc)

  front_kept : (depth : ℕ) (t : Token) (rest : List Token) → (t ≡ Token.begin_object → ⊥) → FrontIs depth (t ∷ rest) d new → kept known d ≡ emptied d
  front_kept depth t rest apart is = token_kept _ _ t rest apart (sym (ap (converted of_json) (value_is depth (t ∷ rest))) ∙ is)

  no_object : (first : kit.Token) → (first ≡ BeginObject → ⊥) → token_of first ≡ Token.begin_object → ⊥
  no_object BeginObject apart is = apart refl
  no_object EndObject apart is = absurd (cc)
  no_object BeginArray apart is = absurd (cc)
  no_object EndArray apart is = absurd (cc)
  no_object (Key s) apart is = absurd (cc)
  no_object (String s) apart is = absurd (cc)
  no_object (Number s) apart is = absurd (cc)
  no_object (variant.Bool b) apart is = absurd (cc)
  no_object Null apart is = absurd (cc)
  no_object Bad apart is = absurd (cc)

  pub kept-emptied : (depth : ℕ) (first : kit.Token) (rest : List Token) → (first ≡ BeginObject → ⊥) → FrontIs depth (token_of first ∷ rest) d new → kept known d ≡ emptied d
  kept-emptied depth first rest apart is = front_kept depth (token_of first) rest (no_object first apart) is

-- What a member of a JSON value is read as, both ways. The key lemmas are text_at-found, number_at-found, id_at-found,
-- library_at-found, key_at-found, path_at-found and got_at-found, and those that go back: text_at-has and so on.
use Rattle.std.proofs.Common.{◌≡◌, ℕ, ℤ, pos, negsuc, ◌^◌, ◌<◌, w64, nat_lt, ◌==◌, Bool, true, false, if◌then◌else◌, List, [], ◌∷◌, length, Option, None, Some, Result, Ok, codes, refl, sym, ap, subst, ◌∙◌, arith, option_map}
use Rattle.std.specs.Option.{option_and_then}
use Rattle.std.specs.Result.{result_ok}
use Rattle.std.proofs.lemmas.Bool.{eqb-true}
use Rattle.std.proofs.lemmas.Bool.Decides.{nat_tests}
use Rattle.std.proofs.lemmas.Int.{fits_signed_from_abs}
use Rattle.hex.specs.Hex.{encode_lower}
use Rattle.uuid.specs.Text.{hyphenated_text, lower}
use Rattle.ids.specs.Kind.{kind_of, kind_word}
use Rattle.ids.proofs.KindLemmas.{kind_of-has, kind_of-word}
use Rattle.ids.specs.declared.key.Key.{Key}
use Rattle.ids.proofs.BasicLemmas.{same_from_some}
use Rattle.serde_json.specs.Data.{Data, unsigned, negative, float, null, boolean, number, string, array, object}
use Rattle.serde_json.specs.Find.{get, as_i64, as_number, as_str, as_u64, of_integer}
use Rattle.json_words.specs.Check.{◌>>=◌, ok_or}
use Rattle.json_words.specs.Fields.{integer_field, number_field, text_field}
use Rattle.json_words.specs.IdText.{library_id_of, object_id_of}
use Rattle.json_words.specs.declared.fields.FieldFault.{FieldFault}
use Rattle.json_words.specs.declared.fields.FieldFault.TheVariants.{Missing, WrongType}
use Rattle.json_words.proofs.FoundLemmas.{integer_field-found, number_field-found, text_field-found}
use Rattle.library_state.specs.declared.refusal.Refusal.TheVariants as refusal
use Rattle.tree_model.specs.Name.{IsName}
use Rattle.tree_model.specs.Path.{PathV, IsPath, path_of, path_text}
use Rattle.tree_model.proofs.PathReadingLemmas.{IsTextOf, path_of-has, path_of-text}
use Rattle.tree_model.proofs.NameLemmas.{IsName-some}
use Rattle.http_front.specs.CallQuery.{IsClient, IsObjectId}
use Rattle.http_front.specs.RefusalText.{id_or_null}
use Rattle.http_front.specs.Route.{IsLibrary}
use Rattle.http_front.proofs.CallLemmas.{id_reads, lib_reads}
use Rattle.http_front.proofs.NamedIdLemmas.{id_bytes, id_text, lib_text, library_bytes}
use Rattle.http_client.specs.RefusalReading.{NamesThings}
use Rattle.http_client.specs.RefusalWords.{got_at, id_at, id_or_none, if_whole, integer_at, key_at, key_of, library_at, named_path, number_at, path_at, text_at}

-- ---- texts and numbers

pub text_at-found : (name : List ℕ) (d : Data) (text : List ℕ) → get name d ≡ Some (string text) → text_at name d ≡ Some text
text_at-found name d text is = ap result_ok (text_field-found name d text is)

pub number_at-found : (name : List ℕ) (d : Data) (n : ℕ) → get name d ≡ Some (number (unsigned n)) → number_at name d ≡ Some n
number_at-found name d n is = ap result_ok (number_field-found name d n is)

pub text_at-has : (name : List ℕ) (d : Data) (text : List ℕ) → text_at name d ≡ Some text → get name d ≡ Some (string text)
unfolding text_field
text_at-has name d text e = by (get name d) e
  where
    by : (o : Option Data) → result_ok (ok_or o Missing >>= (λ found. ok_or (as_str found) WrongType)) ≡ Some text → o ≡ Some (string text)
    by None e = absurd (cc)
    by (Some null) e = absurd (cc)
    by (Some (boolean b)) e = absurd (cc)
    by (Some (number n)) e = absurd (cc)
    by (Some (string s)) e = ap (λ t. Some (string t)) (same_from_some s text e)
    by (Some (array ds)) e = absurd (cc)
    by (Some (object ms)) e = absurd (cc)

pub number_at-has : (name : List ℕ) (d : Data) (n : ℕ) → number_at name d ≡ Some n → get name d ≡ Some (number (unsigned n))
unfolding number_field
number_at-has name d n e = by (get name d) e
  where
    by : (o : Option Data) → result_ok (ok_or o Missing >>= (λ found. ok_or (option_and_then as_u64 (as_number found)) WrongType)) ≡ Some n
        → o ≡ Some (number (unsigned n))
    by None e = absurd (cc)
    by (Some null) e = absurd (cc)
    by (Some (boolean b)) e = absurd (cc)
    by (Some (number (unsigned m))) e = ap (λ k. Some (number (unsigned k))) (same_from_some m n e)
    by (Some (number (negative z))) e = absurd (cc)
    by (Some (number (float x))) e = absurd (cc)
    by (Some (string s)) e = absurd (cc)
    by (Some (array ds)) e = absurd (cc)
    by (Some (object ms)) e = absurd (cc)

-- ---- numbers with a sign

below_read : (name : List ℕ) (d : Data) (n : ℕ) → get name d ≡ Some (number (of_integer (negsuc n))) → integer_field name d ≡ Ok (negsuc n)
unfolding integer_field
below_read name d n is = rw is

pub integer_at-found : (name : List ℕ) (d : Data) (z : ℤ) → NamesThings (refusal.BadDays z) → get name d ≡ Some (number (of_integer z)) → integer_at name d ≡ Some z
integer_at-found name d (pos n) small is =
    ap (λ (r : Result ℤ FieldFault). option_and_then (λ z. if_whole z (number_at name d)) (result_ok r)) (integer_field-found name d (pos n) is (fits_signed_from_abs w64 (pos n) small))
    ∙ ap (if_whole (pos n)) (number_at-found name d n is)
integer_at-found name d (negsuc n) small is =
    ap (λ (r : Result ℤ FieldFault). option_and_then (λ z. if_whole z (number_at name d)) (result_ok r)) (below_read name d n is)

pub integer_at-has : (name : List ℕ) (d : Data) (z : ℤ) → integer_at name d ≡ Some z → NamesThings (refusal.BadDays z) × (get name d ≡ Some (number (of_integer z)))
unfolding integer_field number_field
integer_at-has name d z e = by (get name d) e
  where
    Reads : Option Data → Type 0
    Reads o = NamesThings (refusal.BadDays z) × (o ≡ Some (number (of_integer z)))

    small : (n : ℕ) (b : Bool) → nat_lt n (2 ^ 63) ≡ b
        → option_and_then (λ w. if_whole w (Some n)) (result_ok (ok_or (if b then Some (pos n) else None) WrongType)) ≡ Some z → Reads (Some (number (unsigned n)))
    small n true is e =
        let below : n < 2 ^ 63 = grind (arith, nat_tests) in
        subst (λ (w : ℤ). NamesThings (refusal.BadDays w) × (Some (number (unsigned n)) ≡ Some (number (of_integer w)))) (same_from_some (pos n) z e) (below, refl)
    small n false is e = absurd (cc)

    by : (o : Option Data) → option_and_then (λ w. if_whole w (result_ok (ok_or o Missing >>= (λ found. ok_or (option_and_then as_u64 (as_number found)) WrongType))))
        (result_ok (ok_or o Missing >>= (λ found. ok_or (option_and_then as_i64 (as_number found)) WrongType))) ≡ Some z → Reads o
    by None e = absurd (cc)
    by (Some null) e = absurd (cc)
    by (Some (boolean b)) e = absurd (cc)
    by (Some (number (unsigned n))) e = small n (nat_lt n (2 ^ 63)) refl e
    by (Some (number (negative (pos n)))) e = absurd (cc)
    by (Some (number (negative (negsuc n)))) e =
        subst (λ (w : ℤ). NamesThings (refusal.BadDays w) × (Some (number (negative (negsuc n))) ≡ Some (number (of_integer w)))) (same_from_some (negsuc n) z e) (tt, refl)
    by (Some (number (float x))) e = absurd (cc)
    by (Some (string s)) e = absurd (cc)
    by (Some (array ds)) e = absurd (cc)
    by (Some (object ms)) e = absurd (cc)

-- what goes on behind an option
record Passed {A B : Type 0} (o : Option A) (f : A → Option B) (b : B) : Type 0 where
  first : A
  is : o ≡ Some first
  gives : f first ≡ Some b

passed : {A B : Type 0} (o : Option A) (f : A → Option B) (b : B) → option_and_then f o ≡ Some b → Passed o f b
passed None f b e = absurd (cc)
passed (Some a) f b e = record { first = a; is = refl; gives = e }

record Mapped {A B : Type 0} (o : Option A) (f : A → B) (b : B) : Type 0 where
  first : A
  is : o ≡ Some first
  gives : f first ≡ b

mapped : {A B : Type 0} (o : Option A) (f : A → B) (b : B) → option_map f o ≡ Some b → Mapped o f b
mapped None f b e = absurd (cc)
mapped (Some a) f b e = record { first = a; is = refl; gives = same_from_some (f a) b e }

-- ---- ids

pub id_at-found : (name : List ℕ) (d : Data) (id : List ℕ) → IsObjectId id → get name d ≡ Some (string (encode_lower id)) → id_at name d ≡ Some id
id_at-found name d id named is =
    ap (option_and_then object_id_of) (text_at-found name d (encode_lower id) is) ∙ id_reads id named.size named.bytes

is_id : (text id : List ℕ) → object_id_of text ≡ Some id → IsObjectId id
is_id text id e = let bytes = id_bytes text id e in record { size = bytes.0; bytes = bytes.1 }

pub record HasId (name : List ℕ) (d : Data) (id : List ℕ) : Type 0 where
  pub named : IsObjectId id
  pub there : get name d ≡ Some (string (encode_lower id))

pub id_at-has : (name : List ℕ) (d : Data) (id : List ℕ) → id_at name d ≡ Some id → HasId name d id
id_at-has name d id e =
    let text = passed (text_at name d) object_id_of id e in
    record {
      named = is_id text.first id text.gives;
      there = text_at-has name d text.first text.is ∙ ap (λ t. Some (string t)) (id_text text.first id text.gives);
    }

pub library_at-found : (name : List ℕ) (d : Data) (lib : List ℕ) → IsLibrary lib → get name d ≡ Some (string (hyphenated_text lower lib)) → library_at name d ≡ Some lib
library_at-found name d lib named is =
    ap (option_and_then library_id_of) (text_at-found name d (hyphenated_text lower lib) is) ∙ lib_reads lib named.size named.bytes

pub record HasLibrary (name : List ℕ) (d : Data) (lib : List ℕ) : Type 0 where
  pub named : IsLibrary lib
  pub there : get name d ≡ Some (string (hyphenated_text lower lib))

pub library_at-has : (name : List ℕ) (d : Data) (lib : List ℕ) → library_at name d ≡ Some lib → HasLibrary name d lib
library_at-has name d lib e =
    let text = passed (text_at name d) library_id_of lib e in
    record {
      named = library_bytes text.first lib text.gives;
      there = text_at-has name d text.first text.is ∙ ap (λ t. Some (string t)) (lib_text text.first lib text.gives);
    }

-- an id, or null for none
pub got_at-found : (d : Data) (got : Option (List ℕ)) → IsClient got → get (codes "got") d ≡ Some (id_or_null got) → got_at d ≡ Some got
got_at-found d None named is = ap (option_and_then id_or_none) is
got_at-found d (Some id) named is = ap (option_and_then id_or_none) is ∙ ap (option_map Some) (id_reads id named.size named.bytes)

pub record HasGot (d : Data) (got : Option (List ℕ)) : Type 0 where
  pub named : IsClient got
  pub there : get (codes "got") d ≡ Some (id_or_null got)

none_or_id : (d : Data) (v : Data) (got : Option (List ℕ)) → get (codes "got") d ≡ Some v → id_or_none v ≡ Some got → HasGot d got
none_or_id d null None there e = record { named = tt; there = there }
none_or_id d null (Some id) there e = absurd (cc)
none_or_id d (boolean b) got there e = absurd (cc)
none_or_id d (number n) got there e = absurd (cc)
none_or_id d (string text) got there e =
    let id = mapped (object_id_of text) Some got e in
    subst (HasGot d) id.gives (record {
      named = is_id text id.first id.is;
      there = there ∙ ap (λ t. Some (string t)) (id_text text id.first id.is);
    })
none_or_id d (array ds) got there e = absurd (cc)
none_or_id d (object ms) got there e = absurd (cc)

pub got_at-has : (d : Data) (got : Option (List ℕ)) → got_at d ≡ Some got → HasGot d got
got_at-has d got e = let v = passed (get (codes "got") d) id_or_none got e in none_or_id d v.first got v.is v.gives

-- ---- keys

pub key_at-found : (d : Data) (key : Key) → IsObjectId key.id → get (codes "id") d ≡ Some (string (encode_lower key.id))
    → get (codes "kind") d ≡ Some (string (kind_word key.kind)) → key_at d ≡ Some key
key_at-found d key named id_is kind_is =
    ap (λ o. option_and_then (λ kind. option_map (key_of kind) (id_at (codes "id") d)) (option_and_then kind_of o)) (text_at-found (codes "kind") d (kind_word key.kind) kind_is)
    ∙ ap (option_and_then (λ kind. option_map (key_of kind) (id_at (codes "id") d))) (kind_of-word key.kind)
    ∙ ap (option_map (key_of key.kind)) (id_at-found (codes "id") d key.id named id_is)

pub record HasKey (d : Data) (key : Key) : Type 0 where
  pub named : IsObjectId key.id
  pub id_is : get (codes "id") d ≡ Some (string (encode_lower key.id))
  pub kind_is : get (codes "kind") d ≡ Some (string (kind_word key.kind))

pub key_at-has : (d : Data) (key : Key) → key_at d ≡ Some key → HasKey d key
key_at-has d key e =
    let kind = passed (option_and_then kind_of (text_at (codes "kind") d)) (λ kind. option_map (key_of kind) (id_at (codes "id") d)) key e in
    let word = passed (text_at (codes "kind") d) kind_of kind.first kind.is in
    let id = mapped (id_at (codes "id") d) (key_of kind.first) key kind.gives in
    let has = id_at-has (codes "id") d id.first id.is in
    subst (HasKey d) id.gives (record {
      named = has.named;
      id_is = has.there;
      kind_is = text_at-has (codes "kind") d word.first word.is ∙ ap (λ t. Some (string t)) (kind_of-has word.first kind.first word.gives);
    })

-- ---- paths

some_length : (b : ℕ) (text : List ℕ) (test : Bool) → (length (b ∷ text) == 0) ≡ test → test ≡ false
some_length b text true is = let none : length (b ∷ text) ≡ 0 = eqb-true _ 0 is in absurd (omega (arith, none))
some_length b text false is = refl

some_text : (name : List ℕ) (path : PathV) → IsName name → (length (path_text (name ∷ path)) == 0) ≡ false
some_text [] path h = absurd (IsName-some [] h refl)
some_text (b ∷ name) [] h = some_length b name _ refl
some_text (b ∷ name) (next ∷ path) h = some_length b _ _ refl

named_path-text : (path : PathV) → IsPath path → named_path (path_text path) ≡ Some path
named_path-text [] h = refl
named_path-text (name ∷ path) h =
    ap (λ b. if b then Some [] else path_of (path_text (name ∷ path))) (some_text name path h.named.0) ∙ path_of-text (name ∷ path) (λ e. cc) h

pub record HasPath (name : List ℕ) (d : Data) (path : PathV) : Type 0 where
  pub named : IsPath path
  pub there : get name d ≡ Some (string (path_text path))

named_path-has : (text : List ℕ) (path : PathV) → named_path text ≡ Some path → IsTextOf text path
named_path-has [] path e = subst (IsTextOf []) (same_from_some [] path e) (record { named = record { named = tt }; is = refl })
named_path-has (b ∷ text) path e =
    let some = some_length b text (length (b ∷ text) == 0) refl in
    path_of-has (b ∷ text) path (ap (λ t. if t then Some [] else path_of (b ∷ text)) (sym some) ∙ e)

pub path_at-found : (d : Data) (path : PathV) → IsPath path → get (codes "path") d ≡ Some (string (path_text path)) → path_at d ≡ Some path
path_at-found d path named is = ap (option_and_then named_path) (text_at-found (codes "path") d (path_text path) is) ∙ named_path-text path named

pub path_at-has : (d : Data) (path : PathV) → path_at d ≡ Some path → HasPath (codes "path") d path
path_at-has d path e =
    let text = passed (text_at (codes "path") d) named_path path e in
    let is = named_path-has text.first path text.gives in
    record { named = is.named; there = text_at-has (codes "path") d text.first text.is ∙ ap (λ t. Some (string t)) is.is }

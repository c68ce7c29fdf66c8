-- What the members of the whole object tell of the text. The key lemmas are whole-object, whole-more and whole-none.
use Rattle.std.proofs.Common.{◌≡◌, ℕ, Bool, true, false, List, [], ◌∷◌, Option, Some, None, is_some, refl, sym, ap, ◌∙◌, subst, arith}
use Rattle.std.proofs.lemmas.Bool.{false≢true}
use Rattle.std.specs.Bool.{MatchBool}
use Rattle.std.specs.Prelude.{Result, Err, IsUtf8}
use Rattle.json.specs.Json.{Parse, parse_map, items, members, value, value_with}
use Rattle.json.specs.Json as json
use Rattle.json.specs.Lex.{tokens}
use Rattle.json.specs.Reads.{token_of, Yields}
use Rattle.json.specs.Token.{Token}
use Rattle.json.specs.declared.token.Token as reads
use Rattle.serde_json.specs.Data.{Data, array, object, Items, Members}
use Rattle.serde_json.specs.Find.{as_array}
use Rattle.serde_json.specs.Read.{of_json, converted, read}
use Rattle.json_tokens.proofs.ConvertedLemmas.{whole_read, whole_and_more, whole_refused}
use Rattle.json_tokens.proofs.FrontLemmas.{FrontIs-array, FrontIs-object, NoFront-array, NoFront-object}
use Rattle.json_words.proofs.JsonLemmas.{json_of-none, json_of-utf8}
use Rattle.json_words.specs.Answer.{ReadsAs, OnBad}
use Rattle.json_words.specs.Check.{◌>>=◌, holds, ok_or, result_map}
use Rattle.json_words.specs.Fields.{is_object}
use Rattle.json_tokens.specs.Front.{FrontIs, NoFront, ItemsAre, NoItems, MembersAre, NoMembers}
use Rattle.json_words.specs.JsonText.{json_of}
use Rattle.json_words.specs.declared.answer.ReadFault.{ReadFault}
use Rattle.json_words.specs.declared.answer.ReadFault.TheVariants.{Bad, NoMemory}
use Rattle.json_words.specs.declared.fields.FieldFault.TheVariants.{WrongType}
use Rattle.json_words.specs.declared.answer.NotJson as json_words
use Rattle.fs_objects.specs.FsObject.{fs_of, object_in}
use Rattle.fs_objects.specs.ObjectReading.{array_in}
use Rattle.fs_objects.specs.Parts.{fault_of}
use Rattle.fs_objects.specs.declared.fault.BadFs.{BadFs}
use Rattle.fs_objects.specs.declared.fault.BadFs.TheVariants.{NotJson}
use Rattle.fs_objects.specs.declared.fs_object.FsObject.{FsObject}
use Rattle.fs_objects.specs.declared.parts.Parts.{Parts}

module _ (text : List ℕ) (ts : List Token) (opened : tokens text ≡ Token.begin_object ∷ ts) where
  abbrev front : Option (json.Json × List Token)
  front = value 127 (tokens text)

  at_front : (r : Option (Data × List Token)) → converted of_json (value 127 (Token.begin_object ∷ ts)) ≡ r → converted of_json front ≡ r
  at_front r e = ap (λ all. converted of_json (value 127 all)) opened ∙ e

  -- the members, and nothing behind them
  pub whole-object : (found : Members) → MembersAre 126 ts found [] → read text ≡ Some (object found)
  whole-object found e = whole_read front (object found) (at_front (Some (object found, [])) (FrontIs-object 127 ts found [] (omega arith) e))

  pub whole-more : (found : Members) (t : Token) (r : List Token) → MembersAre 126 ts found (t ∷ r) → read text ≡ None
  whole-more found t r e = whole_and_more front (object found) t r (at_front (Some (object found, t ∷ r)) (FrontIs-object 127 ts found (t ∷ r) (omega arith) e))

  pub whole-none : NoMembers 126 ts → read text ≡ None
  whole-none e = whole_refused front (at_front None (NoFront-object 127 ts (omega arith) e))

-- ---- a list behind its bracket

pub entered_array : (old left new : List Token) (ds : Items) → old ≡ Token.begin_array ∷ left → ItemsAre 125 left ds new → FrontIs 126 old (array ds) new
entered_array old left new ds opened are = subst (λ all. FrontIs 126 all (array ds) new) (sym opened) (FrontIs-array 126 left ds new (omega arith) are)

pub entered_none : (old left : List Token) → old ≡ Token.begin_array ∷ left → NoItems 125 left → NoFront 126 old
entered_none old left opened none = subst (λ all. NoFront 126 all) (sym opened) (NoFront-array 126 left (omega arith) none)

pub when_true : (P Q : Type 0) (b : Bool) → b ≡ true → MatchBool b P Q → P
when_true P Q true is holds = holds
when_true P Q false is holds = absurd (false≢true is)

pub when_false : (P Q : Type 0) (b : Bool) → b ≡ false → MatchBool b P Q → Q
when_false P Q true is holds = absurd (false≢true (sym is))
when_false P Q false is holds = holds

-- what is no array is none to whoever checks the items
pub no_items_in : {B : Type 0} (check : List Data → B) (d : Data) → as_array d ≡ None → Err WrongType ≡ result_map check (array_in d)
no_items_in check d none = rw none

-- ---- the whole object

fs_of-read : (bytes : List ℕ) (o : Option Data) → json_of bytes ≡ o → fs_of bytes ≡ (ok_or o NotJson >>= (λ d. holds (is_object d) NotJson >>= (λ object. object_in d)))
unfolding fs_of
fs_of-read bytes o is = ap (λ o. ok_or o NotJson >>= (λ d. holds (is_object d) NotJson >>= (λ object. object_in d))) is

-- the object that the members of a text make
pub fs_of-object : (text : List ℕ) (found : Members) → IsUtf8 text → read text ≡ Some (object found) → fs_of text ≡ object_in (object found)
fs_of-object text found utf8 is = fs_of-read text (Some (object found)) (json_of-utf8 text utf8 ∙ is)

none_by : (o : Option Data) → ((d : Data) → o ≡ Some d → is_object d ≡ false) → (ok_or o NotJson >>= (λ d. holds (is_object d) NotJson >>= (λ object. object_in d))) ≡ Err NotJson
none_by None none = refl
none_by (Some d) none = rw (none d refl)

-- a text of no object
pub fs_of-none : (text : List ℕ) → IsUtf8 text → ((d : Data) → read text ≡ Some d → is_object d ≡ false) → fs_of text ≡ Err NotJson
fs_of-none text utf8 none = fs_of-read text (read text) (json_of-utf8 text utf8) ∙ none_by (read text) none

-- bytes that are no text
pub fs_of-no_text : (bytes : List ℕ) → (IsUtf8 bytes → ⊥) → fs_of bytes ≡ Err NotJson
fs_of-no_text bytes never = fs_of-read bytes None (json_of-none bytes (λ utf8. absurd (never utf8)))

-- the fault of a part is that of the whole
pub told_by_part : (fault : ReadFault json_words.NotJson) (wanted : Result FsObject BadFs) (P : Type 0) → (P → wanted ≡ Err NotJson) → OnBad {A = Parts} {E = json_words.NotJson} (Err fault) P
    → ReadsAs {A = FsObject} {E = BadFs} (Err (fault_of fault)) wanted
told_by_part (Bad bad) wanted P hands holds = hands holds
told_by_part NoMemory wanted P hands holds = tt

-- nothing is read of a text, so it has no object
pub nothing_read : (text : List ℕ) → read text ≡ None → (d : Data) → read text ≡ Some d → is_object d ≡ false
nothing_read text none d is = absurd (cc)

module _ (text : List ℕ) (ts : List Token) (opened : tokens text ≡ Token.begin_object ∷ ts) (found : Members) (left new : List Token) where
  -- a token behind the members
  pub more_behind : (next : Option reads.Token) → Yields left next new → is_some next ≡ true → MembersAre 126 ts found left → read text ≡ None
  more_behind None yields some are = absurd (false≢true some)
  more_behind (Some t) yields some are = whole-more text ts opened found (token_of t) new (subst (λ all. MembersAre 126 ts found all) yields are)

  -- nothing behind the members
  pub nothing_behind : (next : Option reads.Token) → Yields left next new → is_some next ≡ false → MembersAre 126 ts found left → read text ≡ Some (object found)
  nothing_behind None yields some are = whole-object text ts opened found (subst (λ all. MembersAre 126 ts found all) yields.0 are)
  nothing_behind (Some t) yields some are = absurd (false≢true (sym some))

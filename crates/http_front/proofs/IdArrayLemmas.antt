-- A JSON array of ids, read by its tokens: what the first of them, the items and what is behind them tell of the body.
use Rattle.std.proofs.Common.{◌≡◌, ℕ, true, false, List, [], ◌∷◌, length, is_some, Option, Some, None, option_and_then, IfSome, IfNone, Ok, Err, IsUtf8, refl, sym, ap, ◌∙◌, subst, arith}
use Rattle.std.proofs.lemmas.Bool.{false≢true}
use Rattle.json.specs.Json.{items, parse_map, value}
use Rattle.json.specs.Lex.{tokens}
use Rattle.json.specs.Reads.{token_of, Yields}
use Rattle.json.specs.Token.{Token}
use Rattle.json.specs.declared.token.Token as reads
use Rattle.json.proofs.Grammar.{value-begin_array}
use Rattle.serde_json.specs.Data.{Data, Items, array, string}
use Rattle.serde_json.specs.Find.{as_array}
use Rattle.serde_json.specs.Read.{of_items, of_json, converted, read}
use Rattle.json_words.specs.Check.{each}
use Rattle.json_words.specs.Fields.{list_of}
use Rattle.json_words.specs.IdText.{id_in, object_id_of}
use Rattle.json_words.proofs.JsonLemmas.{json_of-utf8, json_of-none}
use Rattle.json_tokens.specs.Front.{FrontIs, ItemsAre}
use Rattle.json_tokens.specs.Opening.{text_in}
use Rattle.json_tokens.proofs.ConvertedLemmas.{converted-array}
use Rattle.json_tokens.proofs.FrontLemmas.{FrontIs-array, FrontIs-string}
use Rattle.json_tokens.proofs.OpeningLemmas.{front-text, opens_nothing}
use Rattle.json_tokens.proofs.WholeLemmas.{read-front, read-whole, read-more}
use Rattle.http_front.specs.IdArray.{id_at, ids_of_read, ids_of_value, ids_of}

-- ---- an item

-- a token that is the text of an id is such an item
pub id_at_front : (t : Token) (ts : List Token) (id : List ℕ) → option_and_then object_id_of (text_in t) ≡ Some id → (d : Data) × FrontIs 126 (t ∷ ts) d ts × (id_in d ≡ Some id)
unfolding id_in
id_at_front Token.begin_object ts id e = absurd (cc)
id_at_front Token.end_object ts id e = absurd (cc)
id_at_front Token.begin_array ts id e = absurd (cc)
id_at_front Token.end_array ts id e = absurd (cc)
id_at_front (Token.key s) ts id e = absurd (cc)
id_at_front (Token.string s) ts id e = (string s, FrontIs-string 126 s ts, e)
id_at_front (Token.number s) ts id e = absurd (cc)
id_at_front (Token.boolean b) ts id e = absurd (cc)
id_at_front Token.null ts id e = absurd (cc)
id_at_front Token.bad ts id e = absurd (cc)

module _ (t : Token) (old ts : List Token) (first : old ≡ t ∷ ts) where
  pub some_id : (o : Option (List ℕ)) → o ≡ option_and_then object_id_of (text_in t) → IfSome o (λ id. (d : Data) × FrontIs 126 old d ts × (id_in d ≡ Some id))
  some_id None is = tt
  some_id (Some id) is = subst (λ all. (d : Data) × FrontIs 126 all d ts × (id_in d ≡ Some id)) (sym first) (id_at_front t ts id (sym is))

  pub no_id : (o : Option (List ℕ)) → o ≡ option_and_then object_id_of (text_in t) → IfNone o ((d : Data) (rest : List Token) → FrontIs 126 old d rest → id_in d ≡ None)
  unfolding id_in
  no_id None is = λ d rest front. ap (option_and_then object_id_of) (front-text 126 t ts rest d (subst (λ all. FrontIs 126 all d rest) first front)) ∙ sym is
  no_id (Some id) is = tt

-- at the end no item stands
pub no_id_at_end : (old : List Token) → old ≡ [] → (d : Data) (rest : List Token) → FrontIs 126 old d rest → id_in d ≡ None
no_id_at_end old none d rest front = opens_nothing (λ d. id_in d ≡ None) old none 126 d rest front

-- ---- a text

no_ids : (o : Option Data) → ((d : Data) → o ≡ Some d → ids_of_value d ≡ Err 0) → ids_of_read o ≡ Err 0
no_ids None none = refl
no_ids (Some d) none = none d refl

ids_of_value-bare : (d : Data) → as_array d ≡ None → ids_of_value d ≡ Err 0
unfolding ids_of_value
ids_of_value-bare d e = rw e

ids_of_value-array : (ds : Items) → ids_of_value (array ds) ≡ each id_at (list_of ds)
unfolding ids_of_value
ids_of_value-array ds = refl

-- a text that begins with another token than a bracket
pub no_array_read : (text : List ℕ) → ((depth : ℕ) (d : Data) (rest : List Token) → FrontIs depth (tokens text) d rest → as_array d ≡ None) → ids_of_read (read text) ≡ Err 0
no_array_read text none = no_ids (read text) (λ d is. ids_of_value-bare d (none 127 d [] (read-front text d is)))

pair : (p q : Data × List Token) → Some p ≡ Some q → p.0 ≡ q.0
pair p q e = let same : p ≡ q = cc in ap (λ (r : Data × List Token). r.0) same

module _ (text : List ℕ) (left : List Token) (opened : tokens text ≡ Token.begin_array ∷ left) where
  array_at_front : (ds : Items) (rest : List Token) → ItemsAre 126 left ds rest → FrontIs 127 (tokens text) (array ds) rest
  array_at_front ds rest are = subst (λ ts. FrontIs 127 ts (array ds) rest) (sym opened) (FrontIs-array 127 left ds rest (omega arith) are)

  -- items that are ids, and nothing behind them
  ids_read : (ds : Items) (ids : List (List ℕ)) → ItemsAre 126 left ds [] → each id_at (list_of ds) ≡ Ok ids → ids_of_read (read text) ≡ Ok ids
  ids_read ds ids are is = ap ids_of_read (read-whole text (array ds) (array_at_front ds [] are)) ∙ ids_of_value-array ds ∙ is

  -- something stands behind the array
  ids_and_more : (ds : Items) (t : Token) (rest : List Token) → ItemsAre 126 left ds (t ∷ rest) → ids_of_read (read text) ≡ Err 0
  ids_and_more ds t rest are = ap ids_of_read (read-more text (array ds) t rest (array_at_front ds (t ∷ rest) are))

  -- a token behind the array, or none
  pub ids_spoiled : (ds : Items) (behind new : List Token) (next : Option reads.Token) → Yields behind next new → is_some next ≡ true → ItemsAre 126 left ds behind → ids_of_read (read text) ≡ Err 0
  ids_spoiled ds behind new None yields some are = absurd (false≢true some)
  ids_spoiled ds behind new (Some t) yields some are = ids_and_more ds (token_of t) new (subst (λ all. ItemsAre 126 left ds all) yields are)

  pub ids_whole : (ds : Items) (ids : List (List ℕ)) (behind new : List Token) (next : Option reads.Token) → Yields behind next new → is_some next ≡ false → ItemsAre 126 left ds behind
      → each id_at (list_of ds) ≡ Ok ids → ids_of_read (read text) ≡ Ok ids
  ids_whole ds ids behind new None yields some are is = ids_read ds ids (subst (λ all. ItemsAre 126 left ds all) yields.0 are) is
  ids_whole ds ids behind new (Some t) yields some are is = absurd (false≢true (sym some))

  -- whatever items stand there, one is no id
  pub ids_refused : ((ds : Items) (rest : List Token) → ItemsAre 126 left ds rest → each id_at (list_of ds) ≡ Err 0) → ids_of_read (read text) ≡ Err 0
  ids_refused none = no_ids (read text) (λ d is. by (converted of_items (items (value 126) (length left) left)) refl d (front d (read-front text d is)))
    where
      front : (d : Data) → FrontIs 127 (tokens text) d [] → parse_map array (converted of_items (items (value 126) (length left) left)) ≡ Some (d, [])
      front d is =
          sym (ap (converted of_json) (value-begin_array 127 left (omega arith)) ∙ converted-array (items (value 126) (length left) left))
          ∙ subst (λ ts. FrontIs 127 ts d []) opened is

      by : (o : Option (Items × List Token)) → converted of_items (items (value 126) (length left) left) ≡ o → (d : Data) → parse_map array o ≡ Some (d, []) → ids_of_value d ≡ Err 0
      by None are d e = absurd (cc)
      by (Some p) are d e = ap ids_of_value (sym (pair (array p.0, p.1) (d, []) e)) ∙ ids_of_value-array p.0 ∙ none p.0 p.1 are

-- ---- a body

pub ids_of-utf8 : (body : List ℕ) → IsUtf8 body → ids_of body ≡ ids_of_read (read body)
unfolding ids_of
ids_of-utf8 body text = ap ids_of_read (json_of-utf8 body text)

pub ids_of-none : (body : List ℕ) → (IsUtf8 body → ⊥) → ids_of body ≡ Err 0
unfolding ids_of
ids_of-none body none = ap ids_of_read (json_of-none body (λ text. absurd (none text)))

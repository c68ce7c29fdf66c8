-- The compact text of a value is read as the value. Read IsSpelled first: what a value needs for that.
-- The key lemma is json_of-compact_text; no_float_ids and flat_ids are of lists of ids.
use Rattle.std.proofs.Common.{◌≡◌, ℕ, suc, max, pos, negsuc, ◌^◌, ◌<◌, ◌≤◌, List, [], ◌∷◌, ◌++◌, Bool, true, false, Some, option_map, option_and_then, map, decimal, refl, sym, ap, ap₂, subst, ◌∙◌, append-nil, IsUtf8}
use Rattle.std.specs.Bool.{⊤}
use Rattle.std.proofs.lemmas.Fmt.{IsAscii-decimal, IsAscii-signed}
use Rattle.std.proofs.lemmas.Str.{IsUtf8-append, IsUtf8-from_ascii}
use Rattle.json.specs.Json as json
use Rattle.json.specs.Lex.{tokens}
use Rattle.json.specs.Tree as tree
use Rattle.json.proofs.Printed.Decimals.{IsNumber-decimal, IsNumber-signed_decimal}
use Rattle.json.proofs.Printed.Tokens.{tokens-print}
use Rattle.json.proofs.Printed.Trees.{ArePrintable-json_tokens, value-json_tokens}
pub use Rattle.json.proofs.Printed.Utf8.{IsUtf8-are_ascii}
use Rattle.json.proofs.Printed.Utf8.{IsUtf8-boolean, IsUtf8-quoted}
use Rattle.serde_json.specs.Data.{Num, unsigned, negative, float, Data, null, boolean, number, string, array, object, Items, no_items, item, Members, no_members, member, put, depth, items_depth, members_depth}
use Rattle.serde_json.specs.Read.{read, number_of, of_json, of_items, of_members, max_depth}
use Rattle.serde_json.specs.Written.{items_have_float, number_text, outline, items_outline, members_outline, comma_if, compact_text, items_text, members_text}
use Rattle.serde_json.proofs.Numbers.{number_of-decimal, number_of-negative}
use Rattle.serde_json.proofs.Texts.{print-outline}
use Rattle.serde_json.specs.View.{items_of}
use Rattle.json_words.specs.IdText.{id_data}
use Rattle.json_words.specs.JsonText.{json_of}
use Rattle.json_words.proofs.JsonLemmas.{json_of-utf8}

-- ---- what a value needs

-- a whole number of 64 bits
abbrev pub IsSpelledNumber : Num → Type 0
IsSpelledNumber (unsigned n) = n < 2 ^ 64
IsSpelledNumber (negative (pos n)) = ⊥
IsSpelledNumber (negative (negsuc n)) = n < 2 ^ 63
IsSpelledNumber (float x) = ⊥

-- the members, and one behind them
abbrev pub with_last : Members → List ℕ → Data → Members
with_last no_members k d = member k d no_members
with_last (member l e ms) k d = member l e (with_last ms k d)

-- numbers are whole, texts are UTF-8, and each key of an object goes behind those before it
abbrev mutual
  pub IsSpelled : Data → Type 0
  IsSpelled null = ⊤
  IsSpelled (boolean b) = ⊤
  IsSpelled (number n) = IsSpelledNumber n
  IsSpelled (string s) = IsUtf8 s
  IsSpelled (array ds) = AreSpelled ds
  IsSpelled (object ms) = AreSpelledBehind no_members ms

  pub AreSpelled : Items → Type 0
  AreSpelled no_items = ⊤
  AreSpelled (item d ds) = IsSpelled d × AreSpelled ds

  pub AreSpelledBehind : Members → Members → Type 0
  AreSpelledBehind before no_members = ⊤
  AreSpelledBehind before (member k d ms) =
      IsUtf8 k × IsSpelled d × (put k d before ≡ with_last before k d) × AreSpelledBehind (with_last before k d) ms

-- ---- it is read

number_reads : (n : Num) → IsSpelledNumber n → number_of (number_text n) ≡ Some n
number_reads (unsigned n) fits = number_of-decimal n fits
number_reads (negative (pos n)) fits = absurd fits
number_reads (negative (negsuc n)) fits = number_of-negative n fits
number_reads (float x) fits = absurd fits

-- some members, and others behind them
abbrev joined : Members → Members → Members
joined no_members ms = ms
joined (member l e before) ms = member l e (joined before ms)

joined-none : (before : Members) → joined before no_members ≡ before
joined-none no_members = refl
joined-none (member l e before) = ap (member l e) (joined-none before)

joined-last : (before : Members) (k : List ℕ) (d : Data) (ms : Members) → joined (with_last before k d) ms ≡ joined before (member k d ms)
joined-last no_members k d ms = refl
joined-last (member l e before) k d ms = ap (member l e) (joined-last before k d ms)

mutual
  reads : (d : Data) → IsSpelled d → of_json (outline d) ≡ Some d
  reads null is = refl
  reads (boolean b) is = refl
  reads (number n) is = ap (option_map number) (number_reads n is)
  reads (string s) is = refl
  reads (array ds) is = ap (option_map array) (items_read ds is)
  reads (object ms) is = ap (option_map object) (members_read no_members ms is)

  items_read : (ds : Items) → AreSpelled ds → of_items (items_outline ds) ≡ Some ds
  items_read no_items are = refl
  items_read (item d ds) are =
      ap (option_and_then (λ e. option_map (item e) (of_items (items_outline ds)))) (reads d are.0)
      ∙ ap (option_map (item d)) (items_read ds are.1)

  members_read : (before ms : Members) → AreSpelledBehind before ms → of_members (members_outline ms) before ≡ Some (joined before ms)
  members_read before no_members are = ap Some (sym (joined-none before))
  members_read before (member k d ms) are =
      ap (option_and_then (λ e. of_members (members_outline ms) (put k e before))) (reads d are.1)
      ∙ ap (of_members (members_outline ms)) are.2
      ∙ members_read (with_last before k d) ms are.3
      ∙ ap Some (joined-last before k d ms)

-- ---- its numbers are numbers, and it nests as deep as the value

number_is : (n : Num) → IsSpelledNumber n → tree.HasNumbers (json.number (number_text n))
number_is (unsigned n) fits = IsNumber-decimal n fits
number_is (negative (pos n)) fits = absurd fits
number_is (negative (negsuc n)) fits = IsNumber-signed_decimal (negsuc n) fits
number_is (float x) fits = absurd fits

mutual
  numbers : (d : Data) → IsSpelled d → tree.HasNumbers (outline d)
  numbers null is = tt
  numbers (boolean b) is = tt
  numbers (number n) is = number_is n is
  numbers (string s) is = tt
  numbers (array ds) is = items_numbers ds is
  numbers (object ms) is = members_numbers no_members ms is

  items_numbers : (ds : Items) → AreSpelled ds → tree.ItemsHaveNumbers (items_outline ds)
  items_numbers no_items are = tt
  items_numbers (item d ds) are = (numbers d are.0, items_numbers ds are.1)

  members_numbers : (before ms : Members) → AreSpelledBehind before ms → tree.MembersHaveNumbers (members_outline ms)
  members_numbers before no_members are = tt
  members_numbers before (member k d ms) are = (numbers d are.1, members_numbers (with_last before k d) ms are.3)

mutual
  as_deep : (d : Data) → tree.depth (outline d) ≡ depth d
  as_deep null = refl
  as_deep (boolean b) = refl
  as_deep (number n) = refl
  as_deep (string s) = refl
  as_deep (array ds) = ap suc (items_as_deep ds)
  as_deep (object ms) = ap suc (members_as_deep ms)

  items_as_deep : (ds : Items) → tree.items_depth (items_outline ds) ≡ items_depth ds
  items_as_deep no_items = refl
  items_as_deep (item d ds) = ap₂ max (as_deep d) (items_as_deep ds)

  members_as_deep : (ms : Members) → tree.members_depth (members_outline ms) ≡ members_depth ms
  members_as_deep no_members = refl
  members_as_deep (member k d ms) = ap₂ max (as_deep d) (members_as_deep ms)

read-compact_text : (d : Data) → IsSpelled d → depth d ≤ max_depth → read (compact_text d) ≡ Some d
read-compact_text d is shallow =
    let j = outline d in
    let again : tokens (compact_text d) ≡ tree.json_tokens j =
    ap tokens (sym (print-outline d)) ∙ tokens-print (tree.json_tokens j) (ArePrintable-json_tokens j (numbers d is)) in
    ap (λ ts. option_and_then of_json (option_and_then (λ p. json.if_last p.0 p.1) (json.value max_depth ts)))
    (again ∙ sym (append-nil (tree.json_tokens j)))
    ∙ ap (λ found. option_and_then of_json (option_and_then (λ p. json.if_last p.0 p.1) found))
    (value-json_tokens j max_depth [] (subst (λ n. n ≤ max_depth) (sym (as_deep d)) shallow))
    ∙ reads d is

-- ---- it is UTF-8

number_utf8 : (n : Num) → IsSpelledNumber n → IsUtf8 (number_text n)
number_utf8 (unsigned n) fits = IsUtf8-from_ascii (decimal n) (IsAscii-decimal n fits)
number_utf8 (negative (pos n)) fits = absurd fits
number_utf8 (negative (negsuc n)) fits = IsUtf8-from_ascii _ (IsAscii-signed (negsuc n) fits)
number_utf8 (float x) fits = absurd fits

comma_utf8 : (later : Bool) → IsUtf8 (comma_if later)
comma_utf8 true = IsUtf8-are_ascii _ refl
comma_utf8 false = IsUtf8-are_ascii _ refl

mutual
  utf8 : (d : Data) → IsSpelled d → IsUtf8 (compact_text d)
  utf8 null is = IsUtf8-are_ascii _ refl
  utf8 (boolean b) is = IsUtf8-boolean b
  utf8 (number n) is = number_utf8 n is
  utf8 (string s) is = IsUtf8-quoted s is
  utf8 (array ds) is = IsUtf8-append (91 ∷ []) (items_text false ds) (IsUtf8-are_ascii _ refl) (items_utf8 false ds is)
  utf8 (object ms) is = IsUtf8-append (123 ∷ []) (members_text false ms) (IsUtf8-are_ascii _ refl) (members_utf8 false no_members ms is)

  items_utf8 : (later : Bool) (ds : Items) → AreSpelled ds → IsUtf8 (items_text later ds)
  items_utf8 later no_items are = IsUtf8-are_ascii _ refl
  items_utf8 later (item d ds) are =
      IsUtf8-append (comma_if later) _ (comma_utf8 later) (IsUtf8-append (compact_text d) (items_text true ds) (utf8 d are.0) (items_utf8 true ds are.1))

  members_utf8 : (later : Bool) (before ms : Members) → AreSpelledBehind before ms → IsUtf8 (members_text later ms)
  members_utf8 later before no_members are = IsUtf8-are_ascii _ refl
  members_utf8 later before (member k d ms) are =
      let rest = IsUtf8-append (compact_text d) (members_text true ms) (utf8 d are.1) (members_utf8 true (with_last before k d) ms are.3) in
      let value = IsUtf8-append (58 ∷ []) (compact_text d ++ members_text true ms) (IsUtf8-are_ascii _ refl) rest in
      IsUtf8-append (comma_if later) _ (comma_utf8 later) (IsUtf8-append _ _ (IsUtf8-quoted k are.0) value)

-- ---- the whole

-- a value's compact text is read as the value
pub json_of-compact_text : (d : Data) → IsSpelled d → depth d ≤ max_depth → json_of (compact_text d) ≡ Some d
json_of-compact_text d is shallow = json_of-utf8 (compact_text d) (utf8 d is) ∙ read-compact_text d is shallow

-- ---- lists of ids

pub no_float_ids : (ids : List (List ℕ)) → items_have_float (items_of (map id_data ids)) ≡ false
no_float_ids [] = refl
no_float_ids (id ∷ ids) = no_float_ids ids

pub flat_ids : (ids : List (List ℕ)) → items_depth (items_of (map id_data ids)) ≡ 0
flat_ids [] = refl
flat_ids (id ∷ ids) = ap (max 0) (flat_ids ids)

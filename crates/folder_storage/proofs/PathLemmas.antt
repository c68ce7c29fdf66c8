-- Paths are told apart by what they end in, and digits by their bytes. The key lemmas are encode_lower-injective, slots-one,
-- named-read and read-named.
use Rattle.std.proofs.Common.{◌≡◌, ℕ, zero, suc, ◌<◌, ◌≤◌, ◌==◌, Bool, cond, false, true, ◌+◌, ◌%◌, ◌/◌, List, [], ◌∷◌, ◌++◌, codes, drop, take, length, get_or, slice_index, Option, None, Some, Result, Ok, refl, sym, ap, subst, ◌∙◌, arith, All}
use Rattle.std.specs.Result.{result_ok}
use Rattle.std.specs.List.{AllPass}
use Rattle.std.proofs.lemmas.Bool.Decides.{nat_tests}
use Rattle.std.proofs.lemmas.List.{append_assoc, append_cancel_left, take_more}
use Rattle.std.proofs.lemmas.List.Elements.{All-head, All-tail, All-nil, All-cons, All-from_get_or, All-get_or}
use Rattle.hex.specs.Hex.{decode_of, encode_lower, encode_with, lower_digits}
use Rattle.hex.proofs.HexLemmas.{decode_of-encode_lower}
use Rattle.uuid.specs.Text.{hyphenated_text, is_hyphen_place, lower}
use Rattle.ids.specs.Digits.{digits_form, is_lower_digit}
use Rattle.ids.specs.LibraryId.{library_form}
use Rattle.ids.specs.Form.{IsOf}
use Rattle.ids.specs.declared.key.Key.{Key}
use Rattle.ids.specs.declared.key.Kind.{Kind}
use Rattle.ids.specs.declared.key.Kind.TheVariants.{Commit, Fs, Block}
use Rattle.ids.proofs.DigitsLemmas.{IsBytes-from_All, IsOf-encode_lower, bytes_of, bytes_of-bytes, decode_of-digits, AllPass-encode_lower, length-bytes_of, AllPass-digits}
use Rattle.object_store.specs.declared.shelf.Slot.{Slot}
use Rattle.object_store.specs.declared.shelf.Slot.TheVariants.{Object, Status}
use Rattle.folder_storage.specs.Paths.{HasId, IsId, IsNamed, IsReadAs, kind_folder, library_text, listed_text, other_digits, slot_text, under}

-- ---- digits

some_inj : (x y : List ℕ) → Some x ≡ Some y → x ≡ y
some_inj x y e = cc

ok_some : {E : Type 0} (r : Result (List ℕ) E) (x y : List ℕ) → r ≡ Ok x → r ≡ Ok y → x ≡ y
ok_some r x y one other = some_inj x y (sym (ap result_ok one) ∙ ap result_ok other)

pub encode_lower-injective : (a b : List ℕ) → All (λ byte. byte < 256) a → All (λ byte. byte < 256) b → encode_lower a ≡ encode_lower b → a ≡ b
encode_lower-injective a b small other same =
    ok_some (decode_of (encode_lower a)) a b (decode_of-encode_lower a (IsBytes-from_All a small)) (ap decode_of same ∙ decode_of-encode_lower b (IsBytes-from_All b other))

-- the digits of an id are those of its first byte and the others
pub digits-split : (id : List ℕ) → length id ≡ 20 → encode_lower id ≡ encode_lower (slice_index id 0 ∷ []) ++ other_digits id
unfolding encode_with
digits-split [] size = absurd (omega arith)
digits-split (b ∷ rest) size = refl

cons-inj : (x y : ℕ) (xs ys : List ℕ) → x ∷ xs ≡ y ∷ ys → (x ≡ y) × (xs ≡ ys)
cons-inj x y xs ys e = (ap (λ l. get_or l 0 0) e, ap (drop 1) e)

-- ---- reading

-- an id that a text decodes to has twenty bytes
pub decoded-id : (text id : List ℕ) → IsOf digits_form text → decode_of text ≡ Ok id → IsId id
decoded-id text id is decoded =
    let same : bytes_of text ≡ id = ok_some (decode_of text) (bytes_of text) id (decode_of-digits text is) decoded in
    let whole : length text ≡ 40 = is.whole in
    let twice = length-bytes_of text (omega (arith, whole)) in
    let size : length (bytes_of text) ≡ 20 = omega (arith, whole, twice) in
    subst IsId same (size, bytes_of-bytes text (AllPass-digits text is))

no-false : false ≡ true → ⊥
no-false e = absurd (cc)

-- a text that doesn't have the form is no id's
pub not-digits : (text : List ℕ) → (IsOf digits_form text → false ≡ true) → (id : List ℕ) → IsId id → text ≡ encode_lower id → ⊥
not-digits text not id is same = no-false (not (subst (λ t. IsOf digits_form t) (sym same) (IsOf-encode_lower id is.0 is.1)))

one_byte : (b : ℕ) → b < 256 → All (λ byte. byte < 256) (b ∷ [])
one_byte b small = All-cons (λ (x : ℕ). x < 256) b [] small (All-nil (λ (x : ℕ). x < 256))

-- both begin with two digits
pairs-inj : (a b : ℕ) (xs ys : List ℕ) → encode_lower (a ∷ []) ++ xs ≡ encode_lower (b ∷ []) ++ ys → (encode_lower (a ∷ []) ≡ encode_lower (b ∷ [])) × (xs ≡ ys)
unfolding encode_with
pairs-inj a b xs ys same =
    let high : slice_index lower_digits (a / 16) ≡ slice_index lower_digits (b / 16) = ap (λ l. get_or l 0 0) same in
    let low : slice_index lower_digits (a % 16) ≡ slice_index lower_digits (b % 16) = ap (λ l. get_or l 1 0) same in
    (rw (high, low) refl, ap (drop 2) same)

first-small : (id : List ℕ) → IsId id → slice_index id 0 < 256
first-small [] is = absurd (omega (arith, is.0))
first-small (b ∷ rest) is = All-head (λ (x : ℕ). x < 256) b rest is.1

first-inj : (a b : ℕ) → a < 256 → b < 256 → encode_lower (a ∷ []) ≡ encode_lower (b ∷ []) → a ≡ b
first-inj a b one other same = (cons-inj a b [] [] (encode_lower-injective (a ∷ []) (b ∷ []) (one_byte a one) (one_byte b other) same)).0

named_by : (first : ℕ) (name id : List ℕ) → first < 256 → IsId id
    → encode_lower (first ∷ []) ++ name ≡ encode_lower (slice_index id 0 ∷ []) ++ other_digits id
    → IsId id × (slice_index id 0 ≡ first) × (name ≡ other_digits id)
named_by first name id small is same =
    let parts = pairs-inj first (slice_index id 0) name (other_digits id) same in
    (is, sym (first-inj first (slice_index id 0) small (first-small id is) parts.0), parts.1)

-- what is read from the digits of a byte and a name
pub read-named : (first : ℕ) (name : List ℕ) (found : Option (List ℕ)) → first < 256
    → IsReadAs (encode_lower (first ∷ []) ++ name) found → IsNamed first name found
read-named first name None small not = λ id is begins same.
    not id is (sym (digits-split id is.0 ∙ ap (λ b. encode_lower (b ∷ []) ++ other_digits id) begins ∙ ap (λ n. encode_lower (first ∷ []) ++ n) (sym same)))
read-named first name (Some id) small (is, text) = named_by first name id small is (text ∙ digits-split id is.0)

-- two ids with the same digits are one
ids-one : (a b : List ℕ) → IsId a → IsId b → slice_index a 0 ≡ slice_index b 0 → other_digits a ≡ other_digits b → a ≡ b
ids-one a b one other first rest =
    encode_lower-injective a b one.1 other.1
    (digits-split a one.0 ∙ ap (λ n. encode_lower (n ∷ []) ++ other_digits a) first
    ∙ ap (λ n. encode_lower (slice_index b 0 ∷ []) ++ n) rest ∙ sym (digits-split b other.0))

-- the name of an id reads back as it
pub named-read : (id : List ℕ) (found : Option (List ℕ)) → IsId id → IsNamed (slice_index id 0) (other_digits id) found → found ≡ Some id
named-read id None is none = absurd (none id is refl refl)
named-read id (Some other) is (there, first, rest) = ap Some (ids-one other id there is first (sym rest))

-- ---- paths

under-under : (library kind first name : List ℕ) → under (under (under library kind) first) name ≡ under library (under kind (under first name))
under-under library kind first name =
    append_assoc (under library kind) (codes "/" ++ first) (codes "/" ++ name)
    ∙ append_assoc library (codes "/" ++ kind) ((codes "/" ++ first) ++ (codes "/" ++ name))

under-cancel : (library a b : List ℕ) → under library a ≡ under library b → a ≡ b
under-cancel library a b same = ap (drop 1) (append_cancel_left library (codes "/" ++ a) (codes "/" ++ b) same)

-- what lies below the folder of a kind
kinds-one : (a b : Kind) (xs ys : List ℕ) → under (kind_folder a) xs ≡ under (kind_folder b) ys → (a ≡ b) × (xs ≡ ys)
kinds-one Commit Commit xs ys same = (refl, ap (drop 8) same)
kinds-one Fs Fs xs ys same = (refl, ap (drop 3) same)
kinds-one Block Block xs ys same = (refl, ap (drop 7) same)
kinds-one Commit Fs xs ys same = let e : 99 ≡ 102 = ap (λ l. get_or l 0 0) same in absurd (omega (arith, e))
kinds-one Commit Block xs ys same = let e : 99 ≡ 98 = ap (λ l. get_or l 0 0) same in absurd (omega (arith, e))
kinds-one Fs Commit xs ys same = let e : 102 ≡ 99 = ap (λ l. get_or l 0 0) same in absurd (omega (arith, e))
kinds-one Fs Block xs ys same = let e : 102 ≡ 98 = ap (λ l. get_or l 0 0) same in absurd (omega (arith, e))
kinds-one Block Commit xs ys same = let e : 98 ≡ 99 = ap (λ l. get_or l 0 0) same in absurd (omega (arith, e))
kinds-one Block Fs xs ys same = let e : 98 ≡ 102 = ap (λ l. get_or l 0 0) same in absurd (omega (arith, e))

status-other : (kind : Kind) (rest : List ℕ) → under (kind_folder kind) rest ≡ codes "status" → ⊥
status-other Commit rest same = let e : 99 ≡ 115 = ap (λ l. get_or l 0 0) same in absurd (omega (arith, e))
status-other Fs rest same = let e : 102 ≡ 115 = ap (λ l. get_or l 0 0) same in absurd (omega (arith, e))
status-other Block rest same = let e : 98 ≡ 115 = ap (λ l. get_or l 0 0) same in absurd (omega (arith, e))

-- the path of an object from its library's folder
object_name : Key → List ℕ
object_name key = under (kind_folder key.kind) (under (encode_lower (slice_index key.id 0 ∷ [])) (other_digits key.id))

slot-object : (library : List ℕ) (key : Key) → slot_text library (Object key) ≡ under library (object_name key)
unfolding object_name
slot-object library key = under-under library (kind_folder key.kind) (encode_lower (slice_index key.id 0 ∷ [])) (other_digits key.id)

keys-one : (a b : Key) → IsId a.id → IsId b.id → object_name a ≡ object_name b → a ≡ b
unfolding object_name
keys-one a b one other same =
    let kinds = kinds-one a.kind b.kind (under (encode_lower (slice_index a.id 0 ∷ [])) (other_digits a.id)) (under (encode_lower (slice_index b.id 0 ∷ [])) (other_digits b.id)) same in
    let parts = pairs-inj (slice_index a.id 0) (slice_index b.id 0) (codes "/" ++ other_digits a.id) (codes "/" ++ other_digits b.id) kinds.1 in
    let first = first-inj (slice_index a.id 0) (slice_index b.id 0) (first-small a.id one) (first-small b.id other) parts.0 in
    let ids = ids-one a.id b.id one other first (ap (drop 1) parts.1) in
    rw (kinds.0, ids) refl

pub slots-one : (library : List ℕ) (a b : Slot) → HasId a → HasId b → slot_text library a ≡ slot_text library b → a ≡ b
unfolding object_name
slots-one library (Object a) (Object b) one other same =
    ap Object (keys-one a b one other (under-cancel library (object_name a) (object_name b) (sym (slot-object library a) ∙ same ∙ slot-object library b)))
slots-one library (Object a) Status one other same =
    absurd (status-other a.kind (under (encode_lower (slice_index a.id 0 ∷ [])) (other_digits a.id)) (under-cancel library (object_name a) (codes "status") (sym (slot-object library a) ∙ same)))
slots-one library Status (Object b) one other same =
    absurd (status-other b.kind (under (encode_lower (slice_index b.id 0 ∷ [])) (other_digits b.id)) (under-cancel library (object_name b) (codes "status") (sym (slot-object library b) ∙ sym same)))
slots-one library Status Status one other same = refl

-- ---- writing

abbrev IsAsciiText : List ℕ → Type 0
IsAsciiText text = All (λ byte. byte < 128) text

digit-ascii : (c : ℕ) → is_lower_digit c ≡ true → c < 128
digit-ascii c is = grind (arith, nat_tests)

digits-ascii : (text : List ℕ) → AllPass is_lower_digit text → IsAsciiText text
digits-ascii [] all = All-nil (λ (x : ℕ). x < 128)
digits-ascii (c ∷ cs) all =
    All-cons (λ (x : ℕ). x < 128) c cs (digit-ascii c (All-head (λ x. is_lower_digit x ≡ true) c cs all)) (digits-ascii cs (All-tail (λ x. is_lower_digit x ≡ true) c cs all))

pub encode_lower-ascii : (xs : List ℕ) → All (λ byte. byte < 256) xs → IsAsciiText (encode_lower xs)
encode_lower-ascii xs small = digits-ascii (encode_lower xs) (AllPass-encode_lower xs small)

pub byte-ascii : (b : ℕ) → b < 256 → IsAsciiText (encode_lower (b ∷ []))
byte-ascii b small = encode_lower-ascii (b ∷ []) (one_byte b small)

rest-ascii : (text : List ℕ) → IsAsciiText text → IsAsciiText (drop 2 text)
rest-ascii [] all = all
rest-ascii (a ∷ []) all = All-nil (λ (x : ℕ). x < 128)
rest-ascii (a ∷ b ∷ text) all = All-tail (λ (x : ℕ). x < 128) b text (All-tail (λ (x : ℕ). x < 128) a (b ∷ text) all)

pub others-ascii : (id : List ℕ) → All (λ byte. byte < 256) id → IsAsciiText (other_digits id)
others-ascii id small = rest-ascii (encode_lower id) (encode_lower-ascii id small)

-- the text of a library's id is ASCII: digits, and hyphens between them
library_char : (b : Bool) (c : ℕ) → cond b (c == 45) (is_lower_digit c) ≡ true → c < 128
library_char true c is = grind (arith, nat_tests)
library_char false c is = digit-ascii c is

pub library-ascii : (text : List ℕ) → IsOf library_form text → IsAsciiText text
library-ascii text form =
    All-from_get_or (λ (x : ℕ). x < 128) text 0 (λ k below. library_char (is_hyphen_place k) (get_or text k 0) (form.each k (subst (λ n. k < n) form.whole below)))

-- the digits of a byte, by its halves
pub byte-digits : (b x y : ℕ) → x ≡ b / 16 → y ≡ b % 16 → slice_index lower_digits x ∷ slice_index lower_digits y ∷ [] ≡ encode_lower (b ∷ [])
unfolding encode_with
byte-digits b x y high low = rw (high, low) refl

-- one more character is appended
pub pushed-more : (old now new bytes code : List ℕ) (i d : ℕ) → i < length bytes → new ≡ now ++ code
    → (get_or bytes i d < 128 → code ≡ get_or bytes i d ∷ []) → (IsAsciiText bytes → now ≡ old ++ take i bytes)
    → IsAsciiText bytes → new ≡ old ++ take (i + 1) bytes
pushed-more old now new bytes code i d below pushed ascii before all =
    let one = ascii (All-get_or (λ (x : ℕ). x < 128) bytes i d below all) in
    pushed ∙ ap (λ n. n ++ code) (before all) ∙ ap (λ c. (old ++ take i bytes) ++ c) one
    ∙ append_assoc old (take i bytes) (get_or bytes i d ∷ []) ∙ sym (ap (λ t. old ++ t) (take_more bytes i d below))

-- a name after a slash
pub joined : (folder slashed whole name : List ℕ) → slashed ≡ folder ++ codes "/" → whole ≡ slashed ++ name → whole ≡ under folder name
joined folder slashed whole name first then = then ∙ ap (λ n. n ++ name) first ∙ append_assoc folder (codes "/") name

-- a part that runs to the end
take-past : (n : ℕ) (xs : List ℕ) → length xs ≤ n → take n xs ≡ xs
take-past zero [] few = refl
take-past (suc n) [] few = refl
take-past zero (x ∷ xs) few = absurd (omega (arith, few))
take-past (suc n) (x ∷ xs) few = ap (λ l. x ∷ l) (take-past n xs (omega (arith, few)))

rest-past : (digits : List ℕ) → length digits ≡ 40 → take 38 (drop 2 digits) ≡ drop 2 digits
rest-past [] size = refl
rest-past (a ∷ []) size = refl
rest-past (a ∷ b ∷ rest) size = take-past 38 rest (omega (arith, size))

pub rest-whole : (digits : List ℕ) → IsOf digits_form digits → take 38 (drop 2 digits) ≡ drop 2 digits
rest-whole digits form = rest-past digits form.whole

-- the path of a folder of objects, as it is written
pub written-folder : (library folder slashed whole digits : List ℕ) (kind : Kind) (first : ℕ) → first < 256
    → folder ≡ under library (kind_folder kind) → slashed ≡ folder ++ codes "/" → digits ≡ encode_lower (first ∷ [])
    → (IsAsciiText digits → whole ≡ slashed ++ digits) → whole ≡ listed_text library kind first
written-folder library folder slashed whole digits kind first small is slash same appends =
    let done = appends (subst (λ d. IsAsciiText d) (sym same) (byte-ascii first small)) in
    joined folder slashed whole digits slash done ∙ ap (λ n. under folder n) same ∙ ap (λ f. under f (encode_lower (first ∷ []))) is

-- the path of a library's folder, as it is written
pub written-library : (folder slashed whole digits lib : List ℕ) → IsOf library_form digits → digits ≡ hyphenated_text lower lib → slashed ≡ folder ++ codes "/"
    → (IsAsciiText digits → whole ≡ slashed ++ digits) → whole ≡ library_text folder lib
written-library folder slashed whole digits lib form same slash appends =
    joined folder slashed whole digits slash (appends (library-ascii digits form)) ∙ ap (λ n. under folder n) same

-- the path of an object's file, as it is written
pub written-object : (library folder slashed whole digits rest : List ℕ) (key : Key) (first : ℕ) → IsOf digits_form digits → digits ≡ encode_lower key.id
    → first ≡ slice_index key.id 0 → folder ≡ listed_text library key.kind first → slashed ≡ folder ++ codes "/" → rest ≡ drop 2 digits
    → (IsAsciiText rest → whole ≡ slashed ++ rest) → whole ≡ slot_text library (Object key)
written-object library folder slashed whole digits rest key first form digits_are begins is slash rest_is appends =
    let ascii : IsAsciiText rest = subst (λ r. IsAsciiText r) (sym rest_is) (rest-ascii digits (digits-ascii digits (AllPass-digits digits form))) in
    let named : rest ≡ other_digits key.id = rest_is ∙ ap (drop 2) digits_are in
    joined folder slashed whole rest slash (appends ascii) ∙ ap (λ n. under folder n) named
    ∙ ap (λ f. under f (other_digits key.id)) (is ∙ ap (λ n. listed_text library key.kind n) begins)

-- the id that is read of a byte and a name
pub read-of : (first : ℕ) (start digits begun text told name : List ℕ) (found : Option (List ℕ)) → first < 256 → start ≡ []
    → digits ≡ encode_lower (first ∷ []) → (IsAsciiText digits → begun ≡ start ++ digits) → text ≡ begun ++ name → told ≡ text
    → IsReadAs told found → IsNamed first name found
read-of first start digits begun text told name found small none same appends more is read =
    let done = appends (subst (λ d. IsAsciiText d) (sym same) (byte-ascii first small)) in
    let begins : begun ≡ encode_lower (first ∷ []) = done ∙ ap (λ s. s ++ digits) none ∙ same in
    read-named first name found small (subst (λ t. IsReadAs t found) (is ∙ more ∙ ap (λ b. b ++ name) begins) read)

-- An id that is read of a text is written as that text, and has its number of bytes. The lemmas that callers want are
-- id_text, lib_text, id_bytes and library_bytes.
use Rattle.std.proofs.Common.{◌≡◌, ℕ, ◌%◌, ◌<◌, Bool, true, false, cond, Option, None, Some, List, length, refl, sym, ◌∙◌, ap, subst, arith, All}
use Rattle.std.specs.Result.{result_ok}
use Rattle.hex.specs.Hex.{decode_of, encode_lower}
use Rattle.uuid.specs.Text.{hyphenated_text, lower, parsed}
use Rattle.ids.specs.Digits.{digits_form}
use Rattle.ids.specs.LibraryId.{library_form}
use Rattle.ids.proofs.DigitsLemmas as digits
use Rattle.ids.proofs.LibraryTextLemmas as library
use Rattle.json_words.specs.IdText.{has_form, library_id_of, object_id_of}
use Rattle.json_words.proofs.IdLemmas.{IsOf-has_form}
use Rattle.http_front.specs.Route.{IsLibrary}

pub if_some : {A : Type 0} (b : Bool) (o : Option A) (r : A) → cond b o None ≡ Some r → (b ≡ true) × (o ≡ Some r)
if_some true o r e = (refl, e)
if_some false o r e = let bad : ⊥ = cc in absurd bad

pub id_text : (text : List ℕ) (id : List ℕ) → object_id_of text ≡ Some id → text ≡ encode_lower id
unfolding object_id_of
id_text text id e =
    let is = if_some (has_form digits_form text) (result_ok (decode_of text)) id e in
    let form = IsOf-has_form digits_form text is.0 in
    let read : result_ok (decode_of text) ≡ Some (digits.bytes_of text) = ap result_ok (digits.decode_of-digits text form) in
    let same : digits.bytes_of text ≡ id = cc (read, is.1) in
    sym (digits.encode_lower-digits text form) ∙ ap encode_lower same

pub lib_text : (text : List ℕ) (lib : List ℕ) → library_id_of text ≡ Some lib → text ≡ hyphenated_text lower lib
unfolding library_id_of
lib_text text lib e =
    let is = if_some (has_form library_form text) (parsed text) lib e in
    let form = IsOf-has_form library_form text is.0 in
    let read : Some (library.bytes_of text) ≡ parsed text = library.parsed-library text form in
    let same : library.bytes_of text ≡ lib = cc (read, is.1) in
    library.hyphenated-library text form ∙ ap (hyphenated_text lower) same

pub id_bytes : (text : List ℕ) (id : List ℕ) → object_id_of text ≡ Some id → (length id ≡ 20) × All (λ byte. byte < 256) id
unfolding object_id_of
id_bytes text id e =
    let is = if_some (has_form digits_form text) (result_ok (decode_of text)) id e in
    let form = IsOf-has_form digits_form text is.0 in
    let whole : length text ≡ 40 = form.whole in
    let even : length text % 2 ≡ 0 = omega (arith, whole) in
    let half = digits.length-bytes_of text even in
    let size : length (digits.bytes_of text) ≡ 20 = omega (arith, whole, half) in
    let read : result_ok (decode_of text) ≡ Some (digits.bytes_of text) = ap result_ok (digits.decode_of-digits text form) in
    let same : digits.bytes_of text ≡ id = cc (read, is.1) in
    subst (λ (bytes : List ℕ). (length bytes ≡ 20) × All (λ byte. byte < 256) bytes) same
    (size, digits.bytes_of-bytes text (digits.AllPass-digits text form))

pub library_bytes : (text : List ℕ) (lib : List ℕ) → library_id_of text ≡ Some lib → IsLibrary lib
unfolding library_id_of
library_bytes text lib e =
    let is = if_some (has_form library_form text) (parsed text) lib e in
    let form = IsOf-has_form library_form text is.0 in
    let read : Some (library.bytes_of text) ≡ parsed text = library.parsed-library text form in
    let same : library.bytes_of text ≡ lib = cc (read, is.1) in
    subst IsLibrary same (record { size = library.length-bytes_of text; bytes = library.bytes_of-bytes text form })

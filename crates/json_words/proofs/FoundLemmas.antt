-- What a field is read as where it is known which value is there: each writer's read-back rests on these.
use Rattle.std.proofs.Common.{◌≡◌, ◌≢◌, ℕ, ℤ, pos, negsuc, ◌<◌, ◌≤◌, ◌^◌, ◌&&◌, List, Bool, true, false, nat_le, nat_lt, w64, FitsSigned, Some, None, Ok, refl, arith}
use Rattle.std.proofs.lemmas.Bool.Decides.{nat_tests}
use Rattle.std.proofs.lemmas.Int.{ints}
use Rattle.std.proofs.lemmas.Slice.Eq.{bytes_eq-Decides}
use Rattle.std.specs.Str.{bytes_eq}
use Rattle.ids.specs.ObjectId.{nil}
use Rattle.serde_json.specs.Data.{Data, Num, null, number, unsigned, string, array}
use Rattle.serde_json.specs.Find.{get, as_i64, is_float, of_integer}
use Rattle.serde_json.specs.View.{items_of}
use Rattle.json_words.specs.Fields.{number_field, number_between, integer_field, text_field, array_field, optional_field, optional_text}
use Rattle.json_words.specs.IdText.{object_id_of, id_in, stored_id_in, id_field}
use Rattle.json_words.proofs.FieldLemmas.{list_of-items_of}

pub number_field-found : (name : List ℕ) (d : Data) (n : ℕ) → get name d ≡ Some (number (unsigned n)) → number_field name d ≡ Ok n
unfolding number_field
number_field-found name d n is = rw is

within : (low high n : ℕ) → low ≤ n → n ≤ high → (nat_le low n && nat_le n high) ≡ true
within low high n above below = grind (arith, nat_tests)

pub number_between-found : (low high : ℕ) (name : List ℕ) (d : Data) (n : ℕ) → get name d ≡ Some (number (unsigned n)) → low ≤ n → n ≤ high → number_between low high name d ≡ Ok n
unfolding number_between
number_between-found low high name d n is above below = rw (number_field-found name d n is, within low high n above below)

pub is_float-of_integer : (z : ℤ) → is_float (of_integer z) ≡ false
is_float-of_integer (pos n) = refl
is_float-of_integer (negsuc n) = refl

as_i64-of_integer : (z : ℤ) → FitsSigned w64 z → as_i64 (of_integer z) ≡ Some z
as_i64-of_integer (pos n) fits = let small : n < 2 ^ 63 = omega (arith, ints) in
    let below : nat_lt n (2 ^ 63) ≡ true = grind (arith, nat_tests) in
    rw below
as_i64-of_integer (negsuc n) fits = refl

pub integer_field-found : (name : List ℕ) (d : Data) (z : ℤ) → get name d ≡ Some (number (of_integer z)) → FitsSigned w64 z → integer_field name d ≡ Ok z
unfolding integer_field
integer_field-found name d z is fits = rw (is, as_i64-of_integer z fits)

pub text_field-found : (name : List ℕ) (d : Data) (text : List ℕ) → get name d ≡ Some (string text) → text_field name d ≡ Ok text
unfolding text_field
text_field-found name d text is = rw is

pub array_field-found : (name : List ℕ) (d : Data) (items : List Data) → get name d ≡ Some (array (items_of items)) → array_field name d ≡ Ok items
unfolding array_field
array_field-found name d items is = rw (is, list_of-items_of items)

pub id_in-found : (text id : List ℕ) → object_id_of text ≡ Some id → id_in (string text) ≡ Some id
unfolding id_in
id_in-found text id reads = reads

pub id_field-found : (name : List ℕ) (d : Data) (text id : List ℕ) → get name d ≡ Some (string text) → object_id_of text ≡ Some id → id_field name d ≡ Ok id
unfolding id_field
id_field-found name d text id is reads = rw (is, id_in-found text id reads)

pub optional_text-found : (name : List ℕ) (d : Data) (text : List ℕ) → get name d ≡ Some (string text) → optional_text name d ≡ Ok (Some text)
unfolding optional_text optional_field
optional_text-found name d text is = rw is

pub optional_text-null : (name : List ℕ) (d : Data) → get name d ≡ Some null → optional_text name d ≡ Ok None
unfolding optional_text optional_field
optional_text-null name d is = rw is

pub optional_field-absent : (name : List ℕ) (d : Data) → get name d ≡ None → optional_field name d ≡ None
unfolding optional_field
optional_field-absent name d is = rw is

pub bytes_eq-apart : (xs ys : List ℕ) (b : Bool) → bytes_eq xs ys ≡ b → xs ≢ ys → b ≡ false
bytes_eq-apart xs ys true is apart = absurd (apart ((bytes_eq-Decides xs ys).0 is))
bytes_eq-apart xs ys false is apart = refl

pub stored_id_in-found : (text id : List ℕ) → object_id_of text ≡ Some id → id ≢ nil → stored_id_in (string text) ≡ Some id
unfolding stored_id_in
stored_id_in-found text id reads other = rw (id_in-found text id reads, bytes_eq-apart id nil (bytes_eq id nil) refl other)

pub optional_field-number : (name : List ℕ) (d : Data) (n : Num) → get name d ≡ Some (number n) → optional_field name d ≡ Some (number n)
unfolding optional_field
optional_field-number name d n is = rw is

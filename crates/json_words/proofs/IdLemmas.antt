-- Texts of ids: `has_form` tells whether a text has a form, so the ids are those that `ids` reads.
-- The key lemmas are object_id_of-good and object_id_of-bad, and the same of library ids.
use Rattle.std.proofs.Common.{◌≡◌, ℕ, zero, suc, ◌+◌, ◌<◌, ◌==◌, cond, Bool, true, false, List, [], ◌∷◌, length, get_or, IsTrue, Option, Some, None, Ok, refl, sym, ap, ◌∙◌, arith}
use Rattle.std.specs.Result.{result_ok}
use Rattle.std.proofs.lemmas.Bool.{and_parts, and_from, eqb-true, eq-eqb}
use Rattle.hex.specs.Hex.{decode_of}
use Rattle.uuid.specs.Text.{parsed}
use Rattle.ids.specs.Digits.{digits_form}
use Rattle.ids.specs.Form.{Form, IsOf}
use Rattle.ids.specs.LibraryId.{library_form}
use Rattle.json_words.specs.IdText.{allows_from, has_form, object_id_of, library_id_of}

-- what is allowed from a place on is allowed at each place
allows_from-at : (form : Form) (k : ℕ) (cs : List ℕ) → allows_from form k cs ≡ true → (i : ℕ) → i < length cs → IsTrue (form.allows (k + i) (get_or cs i 0))
allows_from-at form k [] all i below = absurd (omega arith)
allows_from-at form k (c ∷ cs) all zero below =
    let same : k + 0 ≡ k = omega arith in
    rw same (and_parts (form.allows k c) (allows_from form (suc k) cs) all).0
allows_from-at form k (c ∷ cs) all (suc i) below =
    let same : k + suc i ≡ suc k + i = omega arith in
    rw same (allows_from-at form (suc k) cs (and_parts (form.allows k c) (allows_from form (suc k) cs) all).1 i (omega arith))

allows_from-each : (form : Form) (k : ℕ) (cs : List ℕ) → ((i : ℕ) → i < length cs → IsTrue (form.allows (k + i) (get_or cs i 0))) → allows_from form k cs ≡ true
allows_from-each form k [] each = refl
allows_from-each form k (c ∷ cs) each =
    let same : k + 0 ≡ k = omega arith in
    let here : form.allows k c ≡ true = rw same at (each 0 (omega arith)) in
    let later : (i : ℕ) → i < length cs → IsTrue (form.allows (suc k + i) (get_or cs i 0)) = λ i below.
    let next : k + suc i ≡ suc k + i = omega arith in rw next at (each (suc i) (omega arith)) in
    and_from (form.allows k c) (allows_from form (suc k) cs) here (allows_from-each form (suc k) cs later)

pub IsOf-has_form : (form : Form) (text : List ℕ) → has_form form text ≡ true → IsOf form text
unfolding has_form
IsOf-has_form form text has =
    let parts = and_parts (length text == form.size) (allows_from form 0 text) has in
    let whole : length text ≡ form.size = eqb-true _ _ parts.0 in
    record {
      whole = whole;
      each = λ k below.
          let same : 0 + k ≡ k = omega arith in rw same at (allows_from-at form 0 text parts.1 k (omega arith));
    }

pub has_form-IsOf : (form : Form) (text : List ℕ) → IsOf form text → has_form form text ≡ true
unfolding has_form
has_form-IsOf form text is =
    let each : (i : ℕ) → i < length text → IsTrue (form.allows (0 + i) (get_or text i 0)) = λ i below.
    let same : 0 + i ≡ i = omega arith in rw same (is.each i (omega (arith, is.whole))) in
    and_from (length text == form.size) (allows_from form 0 text) (eq-eqb _ _ is.whole) (allows_from-each form 0 text each)

-- a text of the form is the id that it decodes to
pub object_id_of-good : (text id : List ℕ) → IsOf digits_form text → decode_of text ≡ Ok id → object_id_of text ≡ Some id
unfolding object_id_of
object_id_of-good text id is decoded = ap (λ b. cond b (result_ok (decode_of text)) None) (has_form-IsOf digits_form text is) ∙ ap result_ok decoded

-- a text without the form is no id
bad_by : {A : Type 0} (form : Form) (text : List ℕ) (b : Bool) → has_form form text ≡ b → (IsOf form text → ⊥) → (o : Option A) → cond b o None ≡ None
bad_by form text true has not o = absurd (not (IsOf-has_form form text has))
bad_by form text false has not o = refl

pub object_id_of-bad : (text : List ℕ) → (IsOf digits_form text → ⊥) → object_id_of text ≡ None
unfolding object_id_of
object_id_of-bad text not = bad_by digits_form text _ refl not (result_ok (decode_of text))

pub library_id_of-good : (text id : List ℕ) → IsOf library_form text → Some id ≡ parsed text → library_id_of text ≡ Some id
unfolding library_id_of
library_id_of-good text id is decoded = ap (λ b. cond b (parsed text) None) (has_form-IsOf library_form text is) ∙ sym decoded

pub library_id_of-bad : (text : List ℕ) → (IsOf library_form text → ⊥) → library_id_of text ≡ None
unfolding library_id_of
library_id_of-bad text not = bad_by library_form text _ refl not (parsed text)

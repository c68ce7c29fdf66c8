-- The bodies of refusals have no float, so their text is serde_json's. The lemma that callers want is refused_text.
use Rattle.std.proofs.Common.{◌≡◌, ◌≢◌, ℕ, List, map, None, Some, codes, true, false, refl, ap, ◌∙◌, subst, ne_eqb}
use Rattle.http_front.specs.declared.status.Status.TheVariants.{NotImplemented}
use Rattle.http_front.specs.ReplyText.{bad_body, bad_text, json_parts, written}
use Rattle.serde_json.specs.Data.{Data, array}
use Rattle.serde_json.specs.View.{view, items_of}
use Rattle.serde_json.specs.Written.{compact_text, has_float}
use Rattle.serde_json.specs.declared.value.Value.{Value}
use Rattle.json_words.specs.IdText.{id_data}
use Rattle.http_front.specs.IdArray.{array_text}
use Rattle.library_state.specs.declared.refusal.Refusal.{Refusal}
use Rattle.library_state.specs.declared.refusal.Refusal.TheVariants as refusal
use Rattle.http_front.specs.RefusalText.{refused_body, refused_data}
use Rattle.json_words.proofs.FoundLemmas.{is_float-of_integer}
use Rattle.json_words.proofs.WrittenLemmas.{no_float_ids}

pub no_float : (refusal : Refusal) → has_float (refused_data refusal) ≡ false
no_float (refusal.BadDays days) = rw (is_float-of_integer days)
no_float (refusal.Damaged want None) = refl
no_float (refusal.Damaged want (Some got)) = refl
no_float other = refl

-- the text of an array of ids
pub ids_text : (ids : List (List ℕ)) (values : List Value) (d : Data) (bytes : List ℕ) → d ≡ array (items_of (map view values)) → map view values ≡ map id_data ids
    → (has_float d ≡ false → bytes ≡ compact_text d) → bytes ≡ array_text ids
unfolding array_text
ids_text ids values d bytes whole is text =
    let same : d ≡ array (items_of (map id_data ids)) = whole ∙ ap (λ ds. array (items_of ds)) is in
    let P : Data → Type 0 = λ e. has_float e ≡ false → bytes ≡ compact_text e in
    subst P same text (no_float_ids ids)

pub refused_text : (refusal : Refusal) (d : Data) (bytes : List ℕ) → d ≡ refused_data refusal → (has_float d ≡ false → bytes ≡ compact_text d) → bytes ≡ refused_body refusal
unfolding refused_body
refused_text refusal d bytes is text =
    let same : has_float (refused_data refusal) ≡ false → bytes ≡ compact_text (refused_data refusal) = subst (λ (e : Data). has_float e ≡ false → bytes ≡ compact_text e) is text in
    same (no_float refusal)

-- the last of the four texts
pub bad_text_else : (status : ℕ) → status ≢ 400 → status ≢ 413 → status ≢ 431 → bad_text status ≡ written (json_parts NotImplemented (bad_body (codes "coding"))) true
unfolding bad_text
bad_text_else status a b c = rw (ne_eqb status 400 a, ne_eqb status 413 b, ne_eqb status 431 c)

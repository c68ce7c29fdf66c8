use Rattle.std.proofs.Common.{◌∙◌, ℕ, List, get_or, length, sym, ap, arith, ◌<◌, ◌^◌, ◌≢◌, subst}
use Rattle.std.specs.List.{list_all}
use Rattle.std.specs.Char.{is_ascii_digit}
use Rattle.http_front.proofs.NumberLemmas.{decimal_digits}
use Rattle.http_front.proofs.TagLemmas.{no_leading_zero, number_read, number_parses, decimal_is_text}
use Rattle.http_front.proofs.entity_tag.read_number.Goals.{else-text-gt1-via-then-text-gt1+else-text-eq48, else-text-gt1-via-else-text-gt1}
use Rattle.http_front.proofs.entity_tag.read_number.Goals as goal

pub returns-then-not-are_digits : goal.returns-then-not-are_digits
returns-then-not-are_digits c number fits same =
    let all = ap (list_all is_ascii_digit) same ∙ decimal_digits number fits in
    absurd (cc (c.are_digits.ensures, c.if-not-are_digits.true, all))

pub returns-then-text-eq48 : goal.returns-then-text-eq48
returns-then-text-eq48 c number fits same =
    no_leading_zero number fits (ap (λ (t : List ℕ). get_or t 0 0) (sym same) ∙ c.if-text-eq48.true)
    (omega (arith, c.if-text-gt1.true, ap length same))

pub returns-in-Ok-parse : goal.returns-in-Ok-parse
returns-in-Ok-parse c =
    let all = sym c.are_digits.ensures ∙ c.if-not-are_digits.false in
    let alone = elim c.else-text-gt1.branch as (λ _. (1 < length c.args.text.now → get_or c.args.text.now 0 0 ≢ 48)) [
      | else-text-gt1-via-then-text-gt1+else-text-eq48 w ↦ λ _. w.if-text-eq48.false
      | else-text-gt1-via-else-text-gt1 w ↦ λ long. absurd (omega (arith, w.if-text-gt1.false, long))
    ] in
    let told = rw c.in-Ok.ensures.cases.0 at c.in-Ok-parse.ensures.value.0 in (
      subst (λ (n : ℕ). n < 2 ^ 64) (sym told.1) told.0.1,
      number_read c.args.text.now c.in-Ok-parse.number all alone told.0.0 told.0.1 told.1,
    )

pub returns-in-Err-parse : goal.returns-in-Err-parse
returns-in-Err-parse c number fits same =
    let all = sym c.are_digits.ensures ∙ c.if-not-are_digits.false in
    let told = rw c.in-Ok.ensures.cases.0 at c.in-Err-parse.ensures.value.0 in
    absurd (told (number_parses c.args.text.now number all fits same))

pub returns-in-Err : goal.returns-in-Err
returns-in-Err c number fits same = absurd (c.in-Err.ensures.cases.0 (decimal_is_text c.args.text.now number fits same))

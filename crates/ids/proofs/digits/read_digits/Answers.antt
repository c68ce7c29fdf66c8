-- A text of the form is the digits of the bytes that it decodes to.
use Rattle.std.proofs.Common.{sym, refl, arith, true≢false}
use Rattle.ids.proofs.DigitsLemmas.{decode_sized-digits, encode_lower-digits}
use Rattle.ids.proofs.FormLemmas.{IsOf-from_longest, not_of_form}
use Rattle.ids.specs.Digits.{digits_form}
use Rattle.ids.specs.Form.{IsOf}
use Rattle.ids.proofs.digits.read_digits.Goals as goal

pub returns-then-at-lt-DIGITS-clause-form : goal.returns-then-at-lt-DIGITS-clause-form
returns-then-at-lt-DIGITS-clause-form c = (
  λ e. absurd (true≢false (sym e)),
  λ good.
      let is = rw c.as_bytes-text.ensures.value at c.digits_beginning-at.ensures.value in
      absurd (not_of_form digits_form c.args.text.now c.digits_beginning-at.result is (rw c.as_bytes-text.ensures.value at c.then-at-lt-DIGITS.either) good),
)

pub unwrap-requires : goal.unwrap-requires
unwrap-requires c =
    let is = rw c.as_bytes-text.ensures.value at c.digits_beginning-at.ensures.value in
    let good : IsOf digits_form c.args.text.now = IsOf-from_longest digits_form c.args.text.now c.digits_beginning-at.result is (omega arith) (rw c.as_bytes-text.ensures.value at c.if-text-gt-DIGITS.false) in
    let decoded = rw (c.as_bytes-text.ensures.value, decode_sized-digits c.args.text.now good) at c.decode_to_slice.ensures.value in
    rw decoded.0 refl

pub returns-clause-value : goal.returns-clause-value
returns-clause-value c =
    let is = rw c.as_bytes-text.ensures.value at c.digits_beginning-at.ensures.value in
    let good : IsOf digits_form c.args.text.now = IsOf-from_longest digits_form c.args.text.now c.digits_beginning-at.result is (omega arith) (rw c.as_bytes-text.ensures.value at c.if-text-gt-DIGITS.false) in
    let decoded = rw (c.as_bytes-text.ensures.value, decode_sized-digits c.args.text.now good) at c.decode_to_slice.ensures.value in
    rw decoded.1 (sym (encode_lower-digits c.args.text.now good))

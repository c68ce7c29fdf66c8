-- Each character before the place is a digit, so the front begins a good text, and no longer one does.
use Rattle.std.proofs.Common.{◌≡◌, length, refl, sym, ◌∙◌, arith}
use Rattle.ids.proofs.FormLemmas.{longest_by_places, at_end, at_other}
use Rattle.ids.specs.Digits.{digits_form}
use Rattle.ids.proofs.digits.digits_beginning.Goals as goal

pub returns-then-not-is_lower_digit : goal.returns-then-not-is_lower_digit
returns-then-not-is_lower_digit c = record {
  value = longest_by_places digits_form (λ _. 48) (λ _ _. refl) c.args.text.now c.loop-place.place (omega arith) c.loop-place.invariant.0 c.loop-place.invariant.1
      (at_other (sym c.is_lower_digit.ensures.value ∙ c.if-not-is_lower_digit.true));
}

pub returns : goal.returns
returns c =
    let all : c.loop-place.place ≡ length c.args.text.now = omega arith in record {
      value = rw (← all) (longest_by_places digits_form (λ _. 48) (λ _ _. refl) c.args.text.now c.loop-place.place (omega arith) c.loop-place.invariant.0 c.loop-place.invariant.1 (at_end all));
    }

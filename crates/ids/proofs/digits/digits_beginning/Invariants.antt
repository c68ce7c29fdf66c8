use Rattle.std.proofs.Common.{◌≤◌}
use Rattle.ids.proofs.FormLemmas.{AllowsFront}
use Rattle.ids.specs.Digits.{digits_form}
use Rattle.ids.proofs.digits.digits_beginning.Given as goal

abbrev pub invariant-loop-place : goal.invariant-loop-place
invariant-loop-place l = (l.place ≤ 40) × AllowsFront digits_form l.text l.place

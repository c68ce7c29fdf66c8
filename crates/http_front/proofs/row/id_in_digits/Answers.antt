-- Bytes that are no text are no digits.
use Rattle.std.proofs.Common.{subst}
use Rattle.std.proofs.lemmas.Str.{IsUtf8-from_ascii}
use Rattle.std.specs.Str.{IsUtf8}
use Rattle.hex.proofs.HexLemmas.{IsAscii-encode_with}
use Rattle.hex.specs.Hex.{lower_digits}
use Rattle.ids.proofs.DigitsLemmas.{IsAscii-lower_digits, bytes_of, encode_lower-digits}
use Rattle.http_front.proofs.row.id_in_digits.Goals as goal

pub returns-in-Err-clause-form : goal.returns-in-Err-clause-form
returns-in-Err-clause-form c = (
  λ bad. let no : ⊥ = cc in absurd no,
  λ is. absurd (c.in-Err.ensures.cases.0 (subst IsUtf8 (encode_lower-digits c.args.digits.now is) (IsUtf8-from_ascii _ (IsAscii-encode_with lower_digits (bytes_of c.args.digits.now) IsAscii-lower_digits)))),
)

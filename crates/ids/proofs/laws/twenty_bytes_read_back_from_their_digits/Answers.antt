-- The digits of bytes have the form and decode to them.
use Rattle.hex.proofs.HexLemmas.{decode_of-encode_lower}
use Rattle.ids.proofs.DigitsLemmas.{IsBytes-from_All, IsOf-encode_lower}
use Rattle.ids.proofs.laws.twenty_bytes_read_back_from_their_digits.Goals as goal

pub returns : goal.returns
returns c = record {
  form = λ bytes size small. IsOf-encode_lower bytes size small;
  value = λ bytes size small. decode_of-encode_lower bytes (IsBytes-from_All bytes small);
}

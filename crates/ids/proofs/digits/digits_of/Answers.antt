-- The digits of 20 bytes have the form and decode to them.
use Rattle.std.proofs.Common.{◌≡◌}
use Rattle.hex.specs.Hex.{encode_lower}
use Rattle.hex.proofs.HexLemmas.{decode_of-encode_lower}
use Rattle.ids.proofs.DigitsLemmas.{IsOf-encode_lower, IsUtf8-encode_lower}
use Rattle.ids.proofs.digits.digits_of.Goals as goal

-- what was written
written : (c : goal.After-unwrap) → c.encode_to_slice.new.output ≡ encode_lower c.args.bytes.now
written c = rw (c.unwrap.ensures, c.bytes_told.ensures.value) at c.encode_to_slice.ensures.written

pub returns-clause-form : goal.returns-clause-form
returns-clause-form c = rw (written c) (IsOf-encode_lower c.args.bytes.now c.told-bytes c.bytes_told.ensures.bytes)

pub returns-clause-decoded : goal.returns-clause-decoded
returns-clause-decoded c = rw (written c) (decode_of-encode_lower c.args.bytes.now c.fits-bytes)

pub returns-clause-utf8 : goal.returns-clause-utf8
returns-clause-utf8 c = rw (written c) (IsUtf8-encode_lower c.args.bytes.now)

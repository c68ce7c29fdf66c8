-- The hyphenated text of bytes has the form and parses to them.
use Rattle.std.proofs.Common.{inl, refl}
use Rattle.uuid.proofs.RoundTrips.{parses_hyphenated}
use Rattle.uuid.specs.Text.{lower}
use Rattle.ids.proofs.LibraryTextLemmas.{IsOf-hyphenated}
use Rattle.ids.proofs.laws.sixteen_bytes_read_back_from_their_hyphenated_text.Goals as goal

pub returns : goal.returns
returns c = record {
  form = λ bytes. IsOf-hyphenated bytes;
  value = λ bytes size small. parses_hyphenated lower bytes (inl refl) size small;
}

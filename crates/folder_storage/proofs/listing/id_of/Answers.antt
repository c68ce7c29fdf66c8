-- Two digits and the name, read.
use Rattle.std.specs.String.{string_bytes}
use Rattle.folder_storage.proofs.PathLemmas.{read-of}
use Rattle.folder_storage.proofs.listing.id_of.Goals as goal

pub returns : goal.returns
returns c = record {
  value = read-of c.args.first (string_bytes c.in_ok-digits.digits) c.byte_digits.result (string_bytes c.push_ascii.new.path) (string_bytes c.push_str.new.self) c.as_str.result.now
      c.args.name.now c.id_read.result c.ranges.first.fits c.in_ok-digits.ensures.bytes c.byte_digits.ensures.value c.in_ok-push_ascii.ensures.ok
      c.in_ok-push_str.ensures.bytes c.as_str.ensures.value c.id_read.ensures.value;
}

-- The digits of the two halves are those of the byte.
use Rattle.folder_storage.proofs.PathLemmas.{byte-digits}
use Rattle.folder_storage.proofs.paths.byte_digits.Goals as goal

pub returns : goal.returns
returns c = record { value = byte-digits c.args.byte c.from.result c.from-2.result c.from.ensures c.from-2.ensures }

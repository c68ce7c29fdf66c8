-- The folder of the kind, a slash and two digits.
use Rattle.std.specs.String.{string_bytes}
use Rattle.folder_storage.proofs.PathLemmas.{written-folder}
use Rattle.folder_storage.proofs.paths.listed_folder.Goals as goal

pub returns : goal.returns
returns c = record {
  value = written-folder c.args.library.now (string_bytes c.in_ok-path.path) (string_bytes c.push_str.new.self) (string_bytes c.push_ascii.new.path) c.byte_digits.result
      c.args.kind c.args.first c.ranges.first.fits c.in_ok-path.ensures.value c.in_ok-push_str.ensures.bytes c.byte_digits.ensures.value c.in_ok-push_ascii.ensures.ok;
}

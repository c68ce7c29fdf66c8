-- The folder, a slash and the text of the id.
use Rattle.std.specs.String.{string_bytes}
use Rattle.folder_storage.proofs.PathLemmas.{written-library}
use Rattle.folder_storage.proofs.paths.library_path.Goals as goal

pub returns : goal.returns
returns c = record {
  value = written-library c.args.folder.now (string_bytes c.in_ok-path.path) (string_bytes c.push_ascii.new.path) c.digits.result c.args.lib.now
      c.digits.ensures.form c.digits.ensures.value c.in_ok-path.ensures.value c.in_ok-push_ascii.ensures.ok;
}

-- The folder of the object, a slash and the other digits.
use Rattle.std.proofs.Common.{drop, take}
use Rattle.std.specs.String.{string_bytes}
use Rattle.folder_storage.proofs.PathLemmas.{rest-whole, written-object}
use Rattle.folder_storage.proofs.paths.object_path.Goals as goal

pub returns : goal.returns
returns c = record {
  value = written-object c.args.library.now (string_bytes c.in_ok-path.path) (string_bytes c.push_str.new.self) (string_bytes c.push_ascii.new.path) c.digits-digits.result (take 38 (drop 2 c.digits-digits.result))
      c.args.key.now c.first_byte.result c.digits-digits.ensures.form c.digits-digits.ensures.value c.first_byte.ensures.value c.in_ok-path.ensures.value c.in_ok-push_str.ensures.bytes
      (rest-whole c.digits-digits.result c.digits-digits.ensures.form) c.in_ok-push_ascii.ensures.ok;
}

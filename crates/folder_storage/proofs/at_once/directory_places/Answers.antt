use Rattle.std.proofs.Common.{◌+◌, map, take, ap, ◌∙◌, arith}
use Rattle.std.proofs.lemmas.List.{take_all, take_more}
use Rattle.std.specs.String.{string_bytes}
use Rattle.folder_storage.specs.AtOnce.{directory_text, path_told}
use Rattle.folder_storage.proofs.AtOnceLemmas.{both-more}
use Rattle.folder_storage.proofs.at_once.directory_places.Goals as goal

pub loop-directory-preserved : goal.loop-directory-preserved
loop-directory-preserved c =
    let list = c.args.directories.now in
    let passed = c.loop-directory.directory-index in
    both-more path_told (directory_text c.args.library.now) c.loop-directory.places.items c.push.new.self.items (take passed list) (take (passed + 1) list) c.new.result _
    (take_more list passed _ c.loop-directory-test.true) c.in_ok-push.ensures.items (ap string_bytes c.new.ensures.path ∙ c.in_ok-directory_path.ensures.value)
    c.loop-directory.invariant

pub returns : goal.returns
returns c = record {
  path = c.loop-directory.invariant
      ∙ ap (map (directory_text c.args.library.now)) (take_all c.loop-directory.directory-index c.args.directories.now (omega (arith, c.loop-directory-test.false)));
}

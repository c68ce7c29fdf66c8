use Rattle.std.proofs.Common.{◌≡◌, ◌+◌, ◌++◌, [], ◌∷◌, map, take, ap, sym, ◌∙◌, arith}
use Rattle.std.proofs.lemmas.List.{take_all, take_more}
use Rattle.std.specs.String.{string_bytes}
use Rattle.folder_storage.specs.AtOnce.{file_text, path_told}
use Rattle.folder_storage.proofs.AtOnceLemmas.{both-more}
use Rattle.folder_storage.proofs.at_once.object_places.Goals as goal

pub loop-key-preserved : goal.loop-key-preserved
loop-key-preserved c =
    let list = c.args.keys.now in
    let passed = c.loop-key.key-index in
    let item = c.key-item.result in
    let all : take (passed + 1) list ≡ take passed list ++ item ∷ [] =
    take_more list passed item c.loop-key-test.true ∙ ap (λ y. take passed list ++ y ∷ []) (sym c.key-item.is) in
    both-more path_told (file_text c.args.library.now) c.loop-key.places.items c.push.new.self.items (take passed list) (take (passed + 1) list) c.new.result item
    all c.in_ok-push.ensures.items (ap string_bytes c.new.ensures.path ∙ c.in_ok-object_path.ensures.value) c.loop-key.invariant

pub returns : goal.returns
returns c = record {
  path = c.loop-key.invariant
      ∙ ap (map (file_text c.args.library.now)) (take_all c.loop-key.key-index c.args.keys.now (omega (arith, c.loop-key-test.false)));
}

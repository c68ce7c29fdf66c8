use Rattle.std.proofs.Common.{◌≡◌, ◌+◌, ◌++◌, [], ◌∷◌, map, take, ap, sym, ◌∙◌, arith}
use Rattle.std.proofs.lemmas.List.{append-nil, take_all, take_more}
use Rattle.folder_storage.specs.AtOnce.{ending_told}
use Rattle.folder_storage.proofs.AtOnceLemmas.{map-more}
use Rattle.folder_storage.proofs.at_once.add_endings.Goals as goal

pub loop-place-init : goal.loop-place-init
loop-place-init c = sym (append-nil c.args.endings.now.items)

pub loop-place-preserved : goal.loop-place-preserved
loop-place-preserved c =
    let places = c.args.places.now in
    let passed = c.loop-place.place-index in
    let item = c.place-item.result in
    let all : take (passed + 1) places ≡ take passed places ++ item ∷ [] = take_more places passed item c.loop-place-test.true ∙ ap (λ y. take passed places ++ y ∷ []) (sym c.place-item.is) in
    map-more ending_told (take passed places) (take (passed + 1) places) item c.args.endings.now.items c.loop-place.endings.items c.push.new.self.items all
    c.loop-place.invariant c.in_ok-push.ensures.items

pub returns : goal.returns
returns c = record {
  value = c.loop-place.invariant
      ∙ ap (λ list. c.args.endings.now.items ++ map ending_told list) (take_all c.loop-place.place-index c.args.places.now (omega (arith, c.loop-place-test.false)));
}

use Rattle.std.proofs.Common.{◌≡◌, ◌+◌, ◌++◌, [], ◌∷◌, take, ap, sym, ◌∙◌, subst, arith}
use Rattle.std.proofs.lemmas.List.{take_all, take_more}
use Rattle.folder_storage.specs.Durability.{In}
use Rattle.folder_storage.proofs.DurabilityLemmas.{named-more}
use Rattle.folder_storage.proofs.durability.directories_of.Goals as goal

pub loop-key-preserved : goal.loop-key-preserved
loop-key-preserved c =
    let keys = c.args.keys.now in
    let directory = c.loop-key.key-index in
    let item = c.key-item.result in
    let more : take (directory + 1) keys ≡ take directory keys ++ item ∷ [] = take_more keys directory item c.loop-key-test.true ∙ ap (λ y. take directory keys ++ y ∷ []) (sym c.key-item.is) in
    named-more (take directory keys) (take (directory + 1) keys) item c.first_byte.result c.loop-key.directories.items c.add.new.directories.items c.add-in-loop-key.new.directories.items more
    c.loop-key.invariant c.in_ok-add.ensures.stays c.in_ok-add-2.ensures.stays c.first_byte.ensures.value c.in_ok-add.ensures.ok c.in_ok-add-2.ensures.ok

pub returns : goal.returns
returns c = record {
  named = λ key is. c.loop-key.invariant key (subst (In key) (sym (take_all c.loop-key.key-index c.args.keys.now (omega (arith, c.loop-key-test.false)))) is);
}

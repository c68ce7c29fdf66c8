use Rattle.std.proofs.Common.{List, ◌∷◌, [], ◌++◌, ap, append-nil, append_assoc, arith, sym, take, ◌∙◌}
use Rattle.std.proofs.lemmas.List.{take_all, take_more}
use Rattle.ids.specs.declared.key.Key.{Key}
use Rattle.depot.proofs.shields.push_all.Goals as goal

pub loop-key-init : goal.loop-key-init
loop-key-init c = sym (append-nil c.args.keys.now)

pub loop-key-preserved : goal.loop-key-preserved
loop-key-preserved c =
    c.in_ok-push.ensures.ok ∙ ap (λ (keys : List Key). keys ++ c.key-item.result ∷ []) c.loop-key.invariant
    ∙ append_assoc c.args.keys.now (take c.loop-key.key-index c.args.more.now) (c.key-item.result ∷ [])
    ∙ ap (λ (keys : List Key). c.args.keys.now ++ keys)
    (ap (λ (key : Key). take c.loop-key.key-index c.args.more.now ++ key ∷ []) c.key-item.is
    ∙ sym (take_more c.args.more.now c.loop-key.key-index c.key-item.result c.loop-key-test.true))

pub returns : goal.returns
returns c = record {
  value = c.loop-key.invariant ∙ ap (λ (keys : List Key). c.args.keys.now ++ keys) (take_all c.loop-key.key-index c.args.more.now (omega arith));
}

use Rattle.std.proofs.Common.{◌≡◌, ◌∙◌, ◌||◌, ap}
use Rattle.tree_model.specs.Path.{PathV}
use Rattle.tree_model.proofs.ListedLemmas.{same_path}
use Rattle.tree_checkout.specs.Hindrances.{has}
use Rattle.tree_checkout.proofs.HindrancesLemmas.{above_within, on_ok_more, put_within}
use Rattle.tree_checkout.proofs.hindrances.add_within.Goals as goal

pub returns-clause-ok : goal.returns-clause-ok
returns-clause-ok c =
    on_ok_more c.put.result
    (λ put. put_within c.args.table.now c.add_above.new.table c.put.new.table c.args.dir.now c.in_ok-add_above.ensures.ok
    (λ q. put q ∙ ap (λ (p : PathV). has c.add_above.new.table q || same_path q p) c.in_ok-copy.ensures.value))
    c.put.ensures.ok

pub returns-clause-whole : goal.returns-clause-whole
returns-clause-whole c =
    on_ok_more c.put.result
    (λ put. above_within c.args.table.now c.put.new.table c.requires.whole c.args.dir.now
    (put_within c.args.table.now c.add_above.new.table c.put.new.table c.args.dir.now c.in_ok-add_above.ensures.ok
    (λ q. put q ∙ ap (λ (p : PathV). has c.add_above.new.table q || same_path q p) c.in_ok-copy.ensures.value)))
    c.put.ensures.ok

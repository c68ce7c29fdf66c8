use Rattle.std.proofs.Common.{◌∙◌, ap, cond}
use Rattle.std.specs.Option.{option_or}
use Rattle.std.specs.FinMap as map
use Rattle.tree_merge.proofs.TableLemmas.{on_ok_more, put_if_len}
use Rattle.tree_merge.proofs.decision.settle_in.Goals as goal

pub returns-clause-bound : goal.returns-clause-bound
returns-clause-bound c =
    on_ok_more c.put.result
    (λ is. record { others = λ q apart. c.in_ok-put_if-2.ensures.ok q ∙ ap (λ b. cond b (option_or c.args.placing.leaver (map.get c.args.decided.now.leavers q)) (map.get c.args.decided.now.leavers q)) apart; leavers = c.in_ok-put_if-2.ensures.bound; known = put_if_len c.args.decided.now.known c.put.new.table c.args.path tt is })
    c.put.ensures.ok

use Rattle.tree_merge.proofs.TableLemmas.{on_ok_more}
use Rattle.tree_merge.proofs.WholeLemmas.{whole_settled}
use Rattle.tree_merge.proofs.decision.decide_at.Goals as goal

pub returns-in-Ok-clause-whole : goal.returns-in-Ok-clause-whole
returns-in-Ok-clause-whole g c =
    on_ok_more c.settle.result
    (λ settled objects three old.
    whole_settled objects c.args.path c.in-Ok.placing c.args.staying.now c.settle.new.staying c.args.decided.now c.settle.new.decided settled (c.in-Ok.ensures.whole objects three) old)
    c.settle.ensures.ok

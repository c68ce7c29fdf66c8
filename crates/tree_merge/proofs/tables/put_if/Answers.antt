use Rattle.std.proofs.Common.{◌∙◌, ap, sym, cond}
use Rattle.std.specs.Option.{option_or}
use Rattle.std.specs.FinMap as map
use Rattle.tree_model.proofs.ListedLemmas.{same_path}
use Rattle.tree_merge.proofs.TableLemmas.{on_ok_more, get-put_if, put_if_len}
use Rattle.tree_merge.proofs.tables.put_if.Goals as goal

pub returns-in_ok-copy-in-Some-clause-ok : goal.returns-in_ok-copy-in-Some-clause-ok
returns-in_ok-copy-in-Some-clause-ok g c =
    on_ok_more c.put.result
    (λ is q. get-put_if c.args.table.now c.put.new.table c.args.path.now c.in-Some.value (is ∙ ap (λ p. map.insert c.args.table.now p c.in-Some.value) c.in_ok-copy-in-Some.ensures.value) q
    ∙ ap (λ o. cond (same_path q c.args.path.now) (option_or o (map.get c.args.table.now q)) (map.get c.args.table.now q)) (sym c.in-Some.is))
    c.put.ensures.ok

pub returns-in_ok-copy-in-Some-clause-bound : goal.returns-in_ok-copy-in-Some-clause-bound
returns-in_ok-copy-in-Some-clause-bound g c =
    on_ok_more c.put.result (λ is. put_if_len c.args.table.now c.put.new.table c.in_ok-copy-in-Some.field-0 c.in-Some.value is) c.put.ensures.ok

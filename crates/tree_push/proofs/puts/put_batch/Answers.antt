-- There is nothing to put.
use Rattle.std.proofs.Common.{◌∙◌, List, [], subst, sym}
use Rattle.http_front.specs.declared.row.Row.{Row}
use Rattle.tree_push.specs.Puts.{row_keys}
use Rattle.tree_push.specs.SentOnce.{SendsFront}
use Rattle.tree_push.proofs.PutsLemmas.{empty_rows, put_waiting}
use Rattle.tree_push.proofs.SentOnceLemmas.{front_none}
use Rattle.tree_push.proofs.puts.put_batch.Goals as goal

pub returns-then-is_empty-clause-none : goal.returns-then-is_empty-clause-none
returns-then-is_empty-clause-none g c = empty_rows _ (sym c.is_empty.ensures.value ∙ c.if-is_empty.true)

pub returns-clause-value : goal.returns-clause-value
returns-clause-value g c =
    put_waiting c.args.library.now c.replace-rows.result c.args.batch.now.rows c.replace-rows.new.dest _ _ c.put.result c.replace-rows.ensures.value
    (c.replace-rows.ensures.after ∙ c.new.ensures.value) c.put.ensures.value

pub returns-then-is_empty-clause-once : goal.returns-then-is_empty-clause-once
returns-then-is_empty-clause-once g c = front_none [] (row_keys c.args.batch.now.rows) (g.R.Remote.sends c.args.remote.now)

pub returns-clause-once : goal.returns-clause-once
returns-clause-once g c =
    subst (λ (rows : List Row). SendsFront [] (row_keys rows) (g.R.Remote.sends c.args.remote.now) (g.R.Remote.sends c.put.new.remote)) c.replace-rows.ensures.value c.put.ensures.once

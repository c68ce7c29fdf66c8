-- The commit is put, or it was refused.
use Rattle.object_graph.specs.Objects.{commit_key}
use Rattle.http_front.specs.declared.order.What.TheVariants as what
use Rattle.tree_push.proofs.StandingLemmas.{order_failed, put_told}
use Rattle.tree_push.proofs.standing.put_commit.Goals as goal

pub returns-in-Ok-clause-value : goal.returns-in-Ok-clause-value
returns-in-Ok-clause-value g c = put_told c.args.library.now c.args.id c.args.text _ _ c.in-Ok.reply c.stored.result c.in-Ok.ensures.value c.stored.ensures.value

pub returns-in-Err-clause-value : goal.returns-in-Err-clause-value
returns-in-Err-clause-value g c = order_failed c.args.library.now (what.Put (commit_key c.args.id) c.args.text) _ _ c.in-Err.fault c.in-Err.ensures.value

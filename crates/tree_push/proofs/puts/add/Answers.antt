-- One object more waits.
use Rattle.tree_push.proofs.PutsLemmas.{batch_more}
use Rattle.tree_push.proofs.puts.add.Goals as goal

pub returns-in-Ok-clause-after : goal.returns-in-Ok-clause-after
returns-in-Ok-clause-after c =
    batch_more c.args.batch.now.rows c.push.new.self c.args.id c.args.bytes c.args.batch.now.size c.args.size c.saturating_add-batch.result c.requires.ready c.requires.named c.requires.digits c.requires.sized
    c.requires.room c.saturating_add-batch.ensures c.in-Ok.ensures.ok

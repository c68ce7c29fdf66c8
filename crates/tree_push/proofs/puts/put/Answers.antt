-- One order that puts.
use Rattle.std.proofs.Common.{Ok, Err}
use Rattle.tree_push.proofs.PutsLemmas.{put_asked, put_failed}
use Rattle.tree_push.proofs.SentOnceLemmas.{put_front}
use Rattle.tree_push.proofs.puts.put.Goals as goal

pub returns-in-Ok-clause-value : goal.returns-in-Ok-clause-value
returns-in-Ok-clause-value g c = put_asked c.args.library.now c.args.what _ _ c.in-Ok.reply c.stored.result c.requires.ready c.requires.named c.in-Ok.ensures.value c.stored.ensures.value

pub returns-in-Err-clause-value : goal.returns-in-Err-clause-value
returns-in-Err-clause-value g c = put_failed c.args.library.now c.args.what _ _ c.in-Err.fault c.requires.ready c.requires.named c.in-Err.ensures.value

pub returns-in-Ok-clause-once : goal.returns-in-Ok-clause-once
returns-in-Ok-clause-once g c = put_front c.args.library.now c.args.what _ _ (Ok c.in-Ok.reply) c.requires.ready c.in-Ok.ensures.value

pub returns-in-Err-clause-once : goal.returns-in-Err-clause-once
returns-in-Err-clause-once g c = put_front c.args.library.now c.args.what _ _ (Err c.in-Err.fault) c.requires.ready c.in-Err.ensures.value

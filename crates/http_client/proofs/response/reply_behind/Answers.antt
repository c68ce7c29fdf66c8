use Rattle.http_client.proofs.ResponseLemmas.{bad_head_by}
use Rattle.http_client.proofs.response.reply_behind.Goals as goal

pub returns-in-None : goal.returns-in-None
returns-in-None c = record { value = bad_head_by c.args.order.now c.args.buffer.now c.args.head c.requires.part c.in-None.is }

use Rattle.worker_server.proofs.EachLemmas.{not_got}
use Rattle.worker_server.proofs.asking.row_of.Goals as goal

pub returns-in_default-clause-not_got : goal.returns-in_default-clause-not_got
returns-in_default-clause-not_got c = not_got c.args.answer.reply c.in_default.not-Got

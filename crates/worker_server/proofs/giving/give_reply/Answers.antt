-- Both parts are given, or a front of them.
use Rattle.worker_server.proofs.GivingLemmas.{CountsFaults-after, Gives-after, GivesFront-first}
use Rattle.worker_server.proofs.giving.give_reply.Goals as goal

pub returns-in-Ok-clause-given : goal.returns-in-Ok-clause-given
returns-in-Ok-clause-given g c =
    Gives-after (g.L.Link.given c.args.link.now) (g.L.Link.given c.give_part.new.link) (g.L.Link.given c.give_part-in-Ok.new.link) c.args.reply.now.front c.args.reply.now.object
    c.give_part-in-Ok.result c.in-Ok.ensures.given c.give_part-in-Ok.ensures.given

pub returns-in-Ok-clause-faults : goal.returns-in-Ok-clause-faults
returns-in-Ok-clause-faults g c =
    CountsFaults-after (g.L.Link.faults c.args.link.now) (g.L.Link.faults c.give_part.new.link) (g.L.Link.faults c.give_part-in-Ok.new.link) c.give_part-in-Ok.result
    c.in-Ok.ensures.faults c.give_part-in-Ok.ensures.faults

pub returns-in-Err-clause-given : goal.returns-in-Err-clause-given
returns-in-Err-clause-given g c =
    GivesFront-first (g.L.Link.given c.args.link.now) (g.L.Link.given c.give_part.new.link) c.args.reply.now.front c.args.reply.now.object c.in-Err.ensures.given

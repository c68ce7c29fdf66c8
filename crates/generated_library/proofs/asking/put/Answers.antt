-- The call was answered by the rules.
use Rattle.std.proofs.Common.{Some}
use Rattle.sync_calls.specs.Hall.{shown_by}
use Rattle.generated_library.proofs.LedLemmas.{put_led}
use Rattle.generated_library.proofs.StoppingLemmas.{stopped}
use Rattle.generated_library.proofs.asking.put.Goals as goal

pub returns-clause-leads : goal.returns-clause-leads
returns-clause-leads g c =
    put_led g.S.Shelf.contents g.S.Shelf.may_give g.S.Shelf.texts g.S.Shelf.faults (shown_by c.args.pass.now) (shown_by c.ask.new.pass) (Some c.args.asker.now.secret) c.args.asker.now.moment c.in_ok-_reply._reply c.args.key c.args.bytes
    c.in_ok-_reply.ensures.done c.in_ok-_reply.ensures.leads

pub returns-in_err-_reply-clause-stops : goal.returns-in_err-_reply-clause-stops
returns-in_err-_reply-clause-stops g c =
    stopped g.S.Shelf.contents g.S.Shelf.may_give g.S.Shelf.texts g.S.Shelf.faults c.args.asker.now.lib c.args.asker.now.secret c.args.asker.now.moment c.ask.new.pass c.in_err-_reply.field-0.0 c.from_residual.result c.from_residual.ensures.1 c.in_err-_reply.ensures.stops

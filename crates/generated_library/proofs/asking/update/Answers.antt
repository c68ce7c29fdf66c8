-- The commit that is told is the head, and so its update was over the head of before, or it was the head.
use Rattle.std.proofs.Common.{Some}
use Rattle.sync_calls.specs.Hall.{shown_by}
use Rattle.generated_library.proofs.LedLemmas.{update_led}
use Rattle.generated_library.proofs.StoppingLemmas.{stopped}
use Rattle.generated_library.proofs.asking.update.Goals as goal

pub returns-clause-leads : goal.returns-clause-leads
returns-clause-leads g c =
    update_led g.S.Shelf.contents g.S.Shelf.may_give g.S.Shelf.texts g.S.Shelf.faults (shown_by c.args.pass.now) (shown_by c.ask.new.pass) (Some c.args.asker.now.secret) c.args.asker.now.moment c.in_ok-reply.reply
    c.args.commit (c.is_updated.ensures.told.0 c.if-not-is_updated.false) c.in_ok-reply.ensures.leads

pub returns-in_err-reply-clause-stops : goal.returns-in_err-reply-clause-stops
returns-in_err-reply-clause-stops g c =
    stopped g.S.Shelf.contents g.S.Shelf.may_give g.S.Shelf.texts g.S.Shelf.faults c.args.asker.now.lib c.args.asker.now.secret c.args.asker.now.moment c.ask.new.pass c.in_err-reply.field-0.0 c.from_residual.result c.from_residual.ensures.1 c.in_err-reply.ensures.stops

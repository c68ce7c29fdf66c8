-- The answer is judged, and all holds of what it is.
use Rattle.std.proofs.Common.{subst, sym}
use Rattle.library_state.specs.declared.reply.Reply.{Reply}
use Rattle.depot.specs.Story.{IsAnswered}
use Rattle.depot.proofs.depot.Depot.tell_own.Goals as goal

pub returns-clause-answered : goal.returns-clause-answered
returns-clause-answered g c =
    subst (λ (r : Reply). IsAnswered g.S.Shelf.contents g.S.Shelf.may_give g.S.Shelf.texts g.S.Shelf.faults c.args.self.now c.args.call c.args.moment r c.tell_unjudged-answer.new.self)
    (sym c.judged.ensures) c.tell_unjudged-answer.ensures.answered

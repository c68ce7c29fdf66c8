-- The answer is judged, and all holds of what it is.
use Rattle.std.proofs.Common.{◌∙◌, subst, sym}
use Rattle.library_rules.specs.LateUpdates.{TakesUploaded}
use Rattle.library_rules.specs.Uploads.{KeepsSafe, TellsSafe}
use Rattle.library_state.specs.declared.reply.Reply.{Reply}
use Rattle.depot.specs.Answering.{Serves}
use Rattle.depot.specs.Held.{IndexSo}
use Rattle.depot.proofs.depot.Depot.answer_own.Goals as goal

pub returns-clause-serves : goal.returns-clause-serves
returns-clause-serves g c =
    subst (λ (r : Reply). Serves g.S.Shelf.contents g.S.Shelf.may_give g.S.Shelf.texts g.S.Shelf.faults c.args.self.now c.args.call c.args.moment r c.answer_unjudged-answer.new.self)
    (sym c.judged.ensures) c.answer_unjudged-answer.ensures.serves

pub returns-clause-held : goal.returns-clause-held
returns-clause-held g c =
    subst (λ (r : Reply). IndexSo c.args.call.act r c.args.self.now.store.index c.answer_unjudged-answer.new.self.store.index) (sym c.judged.ensures) c.answer_unjudged-answer.ensures.held

pub returns-clause-safe : goal.returns-clause-safe
returns-clause-safe g c = λ s t before after.
    subst (λ (r : Reply). KeepsSafe s t × TellsSafe c.args.call.act r t × TakesUploaded s c.args.call r) (sym c.judged.ensures) (c.answer_unjudged-answer.ensures.safe s t before after)

pub returns-clause-denied : goal.returns-clause-denied
returns-clause-denied g c = λ is. c.judged.ensures ∙ c.answer_unjudged-answer.ensures.denied is

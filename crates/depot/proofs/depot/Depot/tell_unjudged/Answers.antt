-- The figures before and after tell whether the call changed the library.
use Rattle.depot.specs.Unjudged.{judged}
use Rattle.depot.proofs.TellingLemmas.{is_other, stays_same}
use Rattle.depot.proofs.depot.Depot.tell_unjudged.Goals as goal

pub returns-clause-answered : goal.returns-clause-answered
returns-clause-answered g c =
    let said = c.answer_unjudged-answer.ensures in
    record { serves = said.serves; denied = said.denied; good = said.stands; gives = said.gives; index = said.held }

pub returns-clause-same : goal.returns-clause-same
returns-clause-same g c = λ is.
    let served = c.answer_unjudged-answer.ensures.serves in
    stays_same g.S.Shelf.contents g.S.Shelf.faults c.args.self.now c.answer_unjudged-answer.new.self c.checked_secret-secret.result c.figures-before.result c.figures-after.result
    c.figures-before.ensures.value c.figures-after.ensures.value c.figures-before.ensures.shown c.figures-after.ensures.shown (c.differ-changed.ensures.same is)
    c.args.call c.args.moment (judged c.answer_unjudged-answer.result) c.checked_secret-secret.ensures.value served.told served.left _ served.fresh c.answer_unjudged-answer.ensures.held

pub returns-clause-other : goal.returns-clause-other
returns-clause-other g c = λ is.
    is_other g.S.Shelf.contents g.S.Shelf.faults c.args.self.now c.answer_unjudged-answer.new.self c.checked_secret-secret.result c.figures-before.result c.figures-after.result
    c.figures-before.ensures.value c.figures-after.ensures.value c.figures-before.ensures.shown c.figures-after.ensures.shown (c.differ-changed.ensures.other is)

-- The figures before and after tell whether the call changed the library.
use Rattle.depot.proofs.TellingLemmas.{is_other, stays_same}
use Rattle.depot.proofs.depot.Depot.tell.Goals as goal

pub returns-clause-answered : goal.returns-clause-answered
returns-clause-answered g c =
    let said = c.answer-reply.ensures in
    record {
      serves = record {
        told = said.shown;
        may_come = said.cause;
        damage = said.damaged;
        count = said.faults;
        left = said.left;
        fresh = said.running;
        marked = said.marked;
        lying = said.lying;
        slot = said.text;
      };
      denied = said.denied;
      good = said.stands;
      gives = said.gives;
      index = said.held;
    }

pub returns-clause-same : goal.returns-clause-same
returns-clause-same g c = λ is.
    stays_same g.S.Shelf.contents g.S.Shelf.faults c.args.self.now c.answer-reply.new.self c.checked_secret-secret.result c.figures-before.result c.figures-after.result
    c.figures-before.ensures.value c.figures-after.ensures.value c.figures-before.ensures.shown c.figures-after.ensures.shown (c.differ-changed.ensures.same is)
    c.args.call.now c.args.moment c.answer-reply.result c.checked_secret-secret.ensures.value c.answer-reply.ensures.shown c.answer-reply.ensures.left _ c.answer-reply.ensures.running c.answer-reply.ensures.held

pub returns-clause-other : goal.returns-clause-other
returns-clause-other g c = λ is.
    is_other g.S.Shelf.contents g.S.Shelf.faults c.args.self.now c.answer-reply.new.self c.checked_secret-secret.result c.figures-before.result c.figures-after.result
    c.figures-before.ensures.value c.figures-after.ensures.value c.figures-before.ensures.shown c.figures-after.ensures.shown (c.differ-changed.ensures.other is)

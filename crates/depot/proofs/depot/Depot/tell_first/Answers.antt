-- The figures before and after tell whether the call changed the library.
use Rattle.std.proofs.Common.{inl, refl, None}
use Rattle.depot.specs.FirstGet.{fs_call}
use Rattle.depot.proofs.TellingLemmas.{is_other, stays_same}
use Rattle.depot.proofs.depot.Depot.tell_first.Goals as goal

pub returns-clause-answered : goal.returns-clause-answered
returns-clause-answered g c =
    let said = c.get_first-reply.ensures in
    record { serves = said.serves; denied = said.denied; good = said.stands; gives = λ slot given is. inl (said.gives slot given is); index = said.held }

pub returns-clause-same : goal.returns-clause-same
returns-clause-same g c = λ is.
    let served = c.get_first-reply.ensures.serves in
    stays_same g.S.Shelf.contents g.S.Shelf.faults c.args.self.now c.get_first-reply.new.self None c.figures-before.result c.figures-after.result
    c.figures-before.ensures.value c.figures-after.ensures.value c.figures-before.ensures.shown c.figures-after.ensures.shown (c.differ-changed.ensures.same is)
    (fs_call c.args.secret.now c.args.id) c.args.moment c.get_first-reply.result refl served.told served.left _ served.fresh c.get_first-reply.ensures.held

pub returns-clause-other : goal.returns-clause-other
returns-clause-other g c = λ is.
    is_other g.S.Shelf.contents g.S.Shelf.faults c.args.self.now c.get_first-reply.new.self None c.figures-before.result c.figures-after.result
    c.figures-before.ensures.value c.figures-after.ensures.value c.figures-before.ensures.shown c.figures-after.ensures.shown (c.differ-changed.ensures.other is)

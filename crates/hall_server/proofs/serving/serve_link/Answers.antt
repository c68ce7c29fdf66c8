-- The calls of a connection leave operations, in their order; and the pass stands for as many passes as at the beginning.
use Rattle.hall_server.proofs.RanLemmas.{ran_goes}
use Rattle.hall_server.proofs.ShareLemmas.{begins_share, ends_share}
use Rattle.hall_server.proofs.serving.serve_link.Goals as goal

pub serve_session-requires : goal.serve_session-requires
serve_session-requires g c =
    let share = begins_share c.args.pass.now c.of-begun.result.value c.of-begun.ensures in
    record { ready = (c.requires.ready, share.0, share.1) }

pub returns-clause-ready : goal.returns-clause-ready
returns-clause-ready g c = c.serve_session.ensures.ready.0

pub returns-clause-size : goal.returns-clause-size
returns-clause-size g c =
    ends_share c.serve_session.new.pass c.args.pass.now c.of-begun.result.value c.of-begun.ensures
    (c.serve_session.ensures.ready.1, c.serve_session.ensures.ready.2)

pub returns-clause-ran : goal.returns-clause-ran
returns-clause-ran g c =
    let ran = c.serve_session.ensures.ran in (
      ran.0,
      ran.1,
      ran_goes g.S.Shelf.contents g.S.Shelf.may_give g.S.Shelf.texts g.S.Shelf.faults (g.C.Clock.shows c.args.clock.now) _ ran.0 _ ran.1,
    )

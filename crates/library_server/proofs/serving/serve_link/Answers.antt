-- The calls are those of the session, and what they lay is no damage.
use Rattle.std.proofs.Common.{inl}
use Rattle.library_server.proofs.CollectionCauseLemmas.{calls_caused}
use Rattle.library_server.proofs.serving.serve_link.Goals as goal

pub returns-clause-ran : goal.returns-clause-ran
returns-clause-ran g c =
    let ran = c.serve_session.ensures.ran in (
      ran.0,
      ran.1,
      calls_caused g.S.Shelf.contents g.S.Shelf.may_give g.S.Shelf.texts g.S.Shelf.faults (g.C.Clock.shows c.args.clock.now) (g.S.Shelf.may_give c.args.library.now.depot.store.shelf)
          c.args.library.now ran.0 c.serve_session.new.pass (λ key given is. inl is) ran.1,
    )

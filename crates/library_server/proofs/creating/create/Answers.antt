-- The library that was made comes back.
use Rattle.library_server.specs.Standing.{came_back}
use Rattle.library_server.proofs.DepotLemmas.{stands_back}
use Rattle.library_server.proofs.StandingLemmas.{comes_back, others_back}
use Rattle.library_server.proofs.creating.create.Goals as goal

pub returns-in-Ok-clause-shown : goal.returns-in-Ok-clause-shown
returns-in-Ok-clause-shown g c = λ standing there.
    let made = c.in-Ok.ensures.shown standing there in (
      made.0,
      made.1,
      stands_back g.G.S.Shelf.contents g.G.S.Shelf.faults c.in-Ok.depot _ _ _ _ _ standing
          c.bring_back.ensures.good c.in-Ok.ensures.lying c.in-Ok.ensures.value.1 made.2 (comes_back _ _ _ _ _ _ c.in-Ok.ensures.back c.bring_back.ensures.ok) there,
    )

pub returns-in-Ok-clause-back : goal.returns-in-Ok-clause-back
returns-in-Ok-clause-back g c = came_back c.in-Ok.depot.store.shelf (comes_back _ _ _ _ _ _ c.in-Ok.ensures.back c.bring_back.ensures.ok)

pub returns-in-Ok-clause-others : goal.returns-in-Ok-clause-others
returns-in-Ok-clause-others g c = others_back c.args.folder.now c.args.new.now.lib c.in-Ok.ensures.others c.bring_back.ensures.gives

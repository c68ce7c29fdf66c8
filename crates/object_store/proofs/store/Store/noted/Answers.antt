-- A shelf that tells its contents gives the status text.
use Rattle.std.proofs.Common.{◌∙◌}
use Rattle.object_store.proofs.RefusalLemmas.{status-at}
use Rattle.object_store.specs.declared.shelf.Slot.TheVariants.{Status}
use Rattle.object_store.proofs.store.Store.noted.Goals as goal
use Rattle.object_store.proofs.store.Store.noted.Goals.{in-Ok, in-Err}

pub returns-clause-found : goal.returns-clause-found
returns-clause-found g c status told =
    let at = status-at (g.S.Shelf.contents c.self.inside.shelf) status (rw (← c.self.view_is) at told) in
    elim c.match-fetch.branch [
      | in-Ok w ↦ rw w.result-is (g.met.S.Shelf.told c.fetch.new.self at.0 Status w.in-Ok.text (c.fetch.ensures.stays ∙ at.1) w.in-Ok.ensures.found ∙ at.2)
      | in-Err w ↦ rw w.result-is tt
    ]

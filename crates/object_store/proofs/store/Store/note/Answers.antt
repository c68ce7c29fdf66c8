-- A text that is written changes no object.
use Rattle.std.proofs.Common.{refl}
use Rattle.object_store.proofs.StrayLemmas.{strays_noted}
use Rattle.object_store.proofs.store.Store.note.Goals as goal

pub returns-clause-lying : goal.returns-clause-lying
returns-clause-lying g c =
    rw (← c.self.view_is)
    (strays_noted g.S.Shelf.contents (record { shelf = c.self.inside.shelf; index = c.self.inside.index }) (record { shelf = c.put.new.self; index = c.self.inside.index })
    c.args.text.now c.put.result refl c.put.ensures.ok)

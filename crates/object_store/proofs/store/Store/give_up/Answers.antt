-- What is left is all but the one, unless there was no memory.
use Rattle.object_store.proofs.HeldLemmas.{objects-given_up}
use Rattle.object_store.proofs.StrayLemmas.{strays_removed}
use Rattle.object_store.proofs.store.Store.give_up.Goals as goal

pub returns-clause-ok : goal.returns-clause-ok
returns-clause-ok g c =
    rw (← c.self.view_is)
    (objects-given_up c.remove_object.result (g.S.Shelf.contents c.self.inside.shelf) (g.S.Shelf.contents c.remove_object.new.shelf)
    c.self.inside.index c.remove_object.new.index c.args.key c.remove_object.ensures.value)

pub returns-clause-lying : goal.returns-clause-lying
returns-clause-lying g c =
    rw (← c.self.view_is)
    (strays_removed g.S.Shelf.contents (record { shelf = c.self.inside.shelf; index = c.self.inside.index }) (record { shelf = c.remove_object.new.shelf; index = c.remove_object.new.index })
    c.args.key c.remove_object.result c.remove_object.ensures.value)

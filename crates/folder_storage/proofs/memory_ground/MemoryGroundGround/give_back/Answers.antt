-- The shelf goes back to its library.
use Rattle.folder_storage.proofs.StandingLemmas.{laid-gives_back, laid-takes_back}
use Rattle.folder_storage.proofs.memory_ground.MemoryGroundGround.give_back.Goals as goal

pub returns-in-Some-clause-ok : goal.returns-in-Some-clause-ok
returns-in-Some-clause-ok c =
    laid-takes_back c.args.self.now.libraries.items c.lay_at.new.libraries.items c.args.folder.now c.args.lib c.in-Some.place c.args.shelf (rw c.deref.ensures.value at c.in-Some.ensures.found) c.lay_at.ensures.ok

pub returns-in-Some-clause-gives : goal.returns-in-Some-clause-gives
returns-in-Some-clause-gives c =
    laid-gives_back c.args.self.now.libraries.items c.lay_at.new.libraries.items c.args.folder.now c.args.lib c.in-Some.place c.args.shelf (rw c.deref.ensures.value at c.in-Some.ensures.found) c.lay_at.ensures.ok

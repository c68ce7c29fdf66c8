-- What is made wasn't there, and is handed out.
use Rattle.folder_storage.proofs.StandingLemmas.{added-changes, added-handed, gives-out, placed-there}
use Rattle.folder_storage.proofs.memory_ground.MemoryGroundGround.make.Goals as goal

pub returns-in-Some-clause-found : goal.returns-in-Some-clause-found
returns-in-Some-clause-found c =
    placed-there c.args.self.now.libraries.items c.args.folder.now c.args.lib c.in-Some.field-0 (rw c.deref.ensures.value at c.in-Some.ensures.found)

pub returns-in-Ok-clause-ok : goal.returns-in-Ok-clause-ok
returns-in-Ok-clause-ok c =
    added-changes c.args.self.now.libraries.items c.add_library.new.libraries.items c.args.folder.now c.args.lib (rw c.deref.ensures.value at c.in-None.ensures.absent) c.in-Ok.ensures.ok

pub returns-in-Ok-clause-handed : goal.returns-in-Ok-clause-handed
returns-in-Ok-clause-handed c =
    added-handed c.args.self.now.libraries.items c.args.folder.now c.args.lib c.in-Ok.shelf.contents (rw c.deref.ensures.value at c.in-None.ensures.absent) c.in-Ok.ensures.value

pub returns-in-Ok-clause-gives : goal.returns-in-Ok-clause-gives
returns-in-Ok-clause-gives c =
    gives-out c.args.self.now.libraries.items c.add_library.new.libraries.items c.args.folder.now c.args.lib
    (added-changes c.args.self.now.libraries.items c.add_library.new.libraries.items c.args.folder.now c.args.lib (rw c.deref.ensures.value at c.in-None.ensures.absent) c.in-Ok.ensures.ok)

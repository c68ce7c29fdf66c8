-- What is found is handed out.
use Rattle.std.proofs.Common.{refl}
use Rattle.folder_storage.proofs.StandingLemmas.{gives-out, gives-stays, taken-found, taken-handed, taken-changes, taken-out, taken-stays, told_out}
use Rattle.folder_storage.proofs.memory_ground.MemoryGroundGround.find.Goals as goal

pub returns-in-Some-take_at-clause-found : goal.returns-in-Some-take_at-clause-found
returns-in-Some-take_at-clause-found c =
    taken-found c.args.self.now.libraries.items c.args.folder.now c.args.lib c.in-Some.place c.in-Some-take_at.shelf (rw c.deref.ensures.value at c.in-Some.ensures.found) c.in-Some-take_at.ensures.value

pub returns-in-Some-take_at-clause-ok : goal.returns-in-Some-take_at-clause-ok
returns-in-Some-take_at-clause-ok c =
    taken-changes c.args.self.now.libraries.items c.take_at.new.libraries.items c.args.folder.now c.args.lib c.in-Some.place (rw c.deref.ensures.value at c.in-Some.ensures.found) c.in-Some-take_at.ensures.ok

pub returns-in-None-take_at-clause-err : goal.returns-in-None-take_at-clause-err
returns-in-None-take_at-clause-err c =
    taken-stays c.args.self.now.libraries.items c.take_at.new.libraries.items c.in-Some.place c.in-None-take_at.ensures.value c.in-None-take_at.ensures.ok

pub returns-in-None-take_at-clause-shelf : goal.returns-in-None-take_at-clause-shelf
returns-in-None-take_at-clause-shelf c = (
  refl,
  taken-out c.args.self.now.libraries.items c.args.folder.now c.args.lib c.in-Some.place (rw c.deref.ensures.value at c.in-Some.ensures.found) c.in-None-take_at.ensures.value,
)

pub returns-in-None-take_at-clause-there : goal.returns-in-None-take_at-clause-there
returns-in-None-take_at-clause-there c = λ standing told apart.
    absurd (apart (told_out c.args.self.now.libraries.items c.args.folder.now c.args.lib standing told
    (taken-out c.args.self.now.libraries.items c.args.folder.now c.args.lib c.in-Some.place (rw c.deref.ensures.value at c.in-Some.ensures.found) c.in-None-take_at.ensures.value)))

pub returns-in-Some-take_at-clause-handed : goal.returns-in-Some-take_at-clause-handed
returns-in-Some-take_at-clause-handed c =
    taken-handed c.args.self.now.libraries.items c.args.folder.now c.args.lib c.in-Some.place c.in-Some-take_at.shelf (rw c.deref.ensures.value at c.in-Some.ensures.found) c.in-Some-take_at.ensures.value

pub returns-in-Some-take_at-clause-gives : goal.returns-in-Some-take_at-clause-gives
returns-in-Some-take_at-clause-gives c =
    gives-out c.args.self.now.libraries.items c.take_at.new.libraries.items c.args.folder.now c.args.lib
    (taken-changes c.args.self.now.libraries.items c.take_at.new.libraries.items c.args.folder.now c.args.lib c.in-Some.place (rw c.deref.ensures.value at c.in-Some.ensures.found) c.in-Some-take_at.ensures.ok)

pub returns-in-None-take_at-clause-gives : goal.returns-in-None-take_at-clause-gives
returns-in-None-take_at-clause-gives c =
    gives-stays c.args.self.now.libraries.items c.take_at.new.libraries.items
    (taken-stays c.args.self.now.libraries.items c.take_at.new.libraries.items c.in-Some.place c.in-None-take_at.ensures.value c.in-None-take_at.ensures.ok)

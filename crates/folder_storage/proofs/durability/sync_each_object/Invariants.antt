use Rattle.std.proofs.Common.{◌≡◌, map, take}
use Rattle.folder_storage.specs.Durability.{SyncedObject, with_steps}
use Rattle.folder_storage.proofs.durability.sync_each_object.Given as goal

-- the steps of those that were passed, and as many calls in all
abbrev pub invariant-loop-key : goal.invariant-loop-key
invariant-loop-key g l = (g.D.Disk.steps l.disk ≡ with_steps (g.D.Disk.steps l.fn.disk) (map SyncedObject (take l.key-index l.keys)))
    × (g.D.Disk.calls l.disk ≡ g.D.Disk.calls l.fn.disk)

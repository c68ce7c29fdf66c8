use Rattle.std.proofs.Common.{◌≡◌, map, take}
use Rattle.folder_storage.specs.Durability.{AreAmong, IsInOrder, PutObject, with_steps}
use Rattle.folder_storage.proofs.laws.put_all.Given as goal

-- the objects that were passed were put, and are in the list; and as many calls in all
abbrev pub invariant-loop-key : goal.invariant-loop-key
invariant-loop-key g l = (g.D.Disk.steps l.disk ≡ with_steps (g.D.Disk.steps l.fn.disk) (map PutObject (take l.key-index l.keys)))
    × AreAmong (take l.key-index l.keys) l.unsynced.keys.items
    × (IsInOrder (g.D.Disk.steps l.fn.disk) l.fn.unsynced.keys.items → IsInOrder (g.D.Disk.steps l.disk) l.unsynced.keys.items)
    × (g.D.Disk.calls l.disk ≡ g.D.Disk.calls l.fn.disk)

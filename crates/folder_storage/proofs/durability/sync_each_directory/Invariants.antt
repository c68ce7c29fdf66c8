use Rattle.std.proofs.Common.{◌≡◌, map, take}
use Rattle.folder_storage.specs.Durability.{SyncedDirectory, with_steps}
use Rattle.folder_storage.proofs.durability.sync_each_directory.Given as goal

-- the steps of those that were passed, and as many calls in all
abbrev pub invariant-loop-directory : goal.invariant-loop-directory
invariant-loop-directory g l = (g.D.Disk.steps l.disk ≡ with_steps (g.D.Disk.steps l.fn.disk) (map SyncedDirectory (take l.directory-index l.directories)))
    × (g.D.Disk.calls l.disk ≡ g.D.Disk.calls l.fn.disk)

use Rattle.std.proofs.Common.{take}
use Rattle.folder_storage.specs.Durability.{AreAmong}
use Rattle.folder_storage.proofs.syncing.add_all.Given as goal

-- what was in the list is in it, and so is what was passed
abbrev pub invariant-loop-key : goal.invariant-loop-key
invariant-loop-key l = AreAmong l.fn.keys.items l.keys.items × AreAmong (take l.key-index l.more) l.keys.items

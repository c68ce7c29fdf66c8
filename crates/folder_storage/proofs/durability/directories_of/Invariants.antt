use Rattle.std.proofs.Common.{take}
use Rattle.folder_storage.specs.Durability.{AreNamedIn}
use Rattle.folder_storage.proofs.durability.directories_of.Given as goal

-- the folders of those that were passed
abbrev pub invariant-loop-key : goal.invariant-loop-key
invariant-loop-key l = AreNamedIn (take l.key-index l.keys) l.directories.items

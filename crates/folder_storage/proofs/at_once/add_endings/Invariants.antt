use Rattle.std.proofs.Common.{◌≡◌, ◌++◌, map, take}
use Rattle.folder_storage.specs.AtOnce.{ending_told}
use Rattle.folder_storage.proofs.at_once.add_endings.Given as goal

-- the endings of those that were passed were added
abbrev pub invariant-loop-place : goal.invariant-loop-place
invariant-loop-place l = l.endings.items ≡ l.fn.endings.items ++ map ending_told (take l.place-index l.places)

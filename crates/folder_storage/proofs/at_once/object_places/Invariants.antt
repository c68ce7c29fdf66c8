use Rattle.std.proofs.Common.{◌≡◌, map, take}
use Rattle.folder_storage.specs.AtOnce.{file_text, path_told}
use Rattle.folder_storage.proofs.at_once.object_places.Given as goal

-- the paths of those that were passed
abbrev pub invariant-loop-key : goal.invariant-loop-key
invariant-loop-key l = map path_told l.places.items ≡ map (file_text l.library) (take l.key-index l.keys)

use Rattle.std.proofs.Common.{◌≡◌, map, take}
use Rattle.folder_storage.specs.AtOnce.{directory_text, path_told}
use Rattle.folder_storage.proofs.at_once.directory_places.Given as goal

-- the paths of those that were passed
abbrev pub invariant-loop-directory : goal.invariant-loop-directory
invariant-loop-directory l = map path_told l.places.items ≡ map (directory_text l.library) (take l.directory-index l.directories)

-- What stands at the two paths of a desk in memory. Our own. Read chosen.
use Rattle.std.specs.Prelude.{ℕ, Bool, ◌||◌, List, Option, None, codes, if◌then◌else◌}
use Rattle.std.specs.Option.{option_map}
use Rattle.std.specs.Str.{bytes_eq}
use Rattle.folder_side.specs.Folder.{Contents}
use Rattle.folder_side.specs.declared.memory_folder.MemoryFolder.{MemoryFolder}

-- the paths that it has
abbrev pub is_place : List ℕ → Bool
is_place dir = bytes_eq dir (codes "conf") || bytes_eq dir (codes "work")

-- what stands at a path, of what stands at each
abbrev pub chosen : List ℕ → (conf work : Option Contents) → Option Contents
chosen dir conf work = if bytes_eq dir (codes "conf") then conf else if bytes_eq dir (codes "work") then work else None

abbrev pub contents_of : Option MemoryFolder → Option Contents
contents_of place = option_map (λ (folder : MemoryFolder). folder.contents) place

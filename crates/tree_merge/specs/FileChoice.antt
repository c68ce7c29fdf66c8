-- The chosen files of a path as entries. Our own. Read IsChoice.
use Rattle.std.specs.Prelude.{◌≡◌, Option, Some, None, option_map, ⊤}
use Rattle.ids.specs.Key.{Objects}
use Rattle.tree_model.specs.FileMerge.{Choice}
use Rattle.tree_merge.specs.declared.file_entry.FileEntry.{FileEntry}
use Rattle.tree_merge.specs.declared.file_merge.Chosen.{Chosen}
use Rattle.tree_merge.specs.FileEntry.{version_of, file_in}
use Rattle.tree_merge.specs.Telling.{IsWhole}
use Rattle.tree_merge.specs.declared.sides.Three.{Three}

-- the files are those of the choice
pub record IsChoice (objects : Objects) (choice : Choice) (chosen : Chosen) : Type 0 where
  pub main : option_map (version_of objects) chosen.main ≡ choice.main
  pub side : option_map (version_of objects) chosen.side ≡ choice.side

-- a file, if there is one, is stored whole
abbrev pub IsWholeIf : Objects → Option FileEntry → Type 0
IsWholeIf objects None = ⊤
IsWholeIf objects (Some file) = IsWhole objects file.id

-- what stays of files that differ from each other and from base
abbrev pub changed_both : (head pushed : Option FileEntry) → Chosen
changed_both None pushed = record { main = pushed; side = None }
changed_both (Some head) pushed = record { main = Some head; side = pushed }

-- the files of a path are stored whole
abbrev pub IsWholeThree : Objects → Three → Type 0
IsWholeThree objects three = IsWholeIf objects (file_in three.base) × IsWholeIf objects (file_in three.head) × IsWholeIf objects (file_in three.pushed)

abbrev pub IsWholeAt : Objects → Option Three → Type 0
IsWholeAt objects None = ⊤
IsWholeAt objects (Some three) = IsWholeThree objects three

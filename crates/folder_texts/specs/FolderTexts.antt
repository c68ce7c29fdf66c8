-- Texts that are kept in a folder, a file each. Our own. Read text_at, then without_text.
use Rattle.std.specs.Prelude.{ℕ, Bool, true, false, List, [], ◌∷◌, Option, Some, None, is_some, if◌then◌else◌, ◌&&◌, nat_eq}
use Rattle.std.specs.Cmp.Lexicographic.{pointwise}
use Rattle.folder_side.specs.declared.folder.Item.{Item}
use Rattle.folder_side.specs.declared.folder.ItemKind.{ItemKind}
use Rattle.folder_side.specs.declared.folder.ItemKind.TheVariants.{File, Dir, Other}
use Rattle.folder_side.specs.Folder.{Contents, at, without}
use Rattle.folder_side.specs.MemoryFolder.{bytes_of}

-- the bytes of the file of this name in the folder itself; none where no file has it
abbrev pub text_at : Contents → List ℕ → Option (List ℕ)
text_at c name = bytes_of (at c (name ∷ []))

-- the folder without that file, where it has one
abbrev pub without_text : List ℕ → Contents → Contents
without_text name c = if is_some (text_at c name) then without (name ∷ []) c else c

-- ---- for private clauses

abbrev pub is_file : ItemKind → Bool
is_file File = true
is_file Dir = false
is_file Other = false

-- an entry is the file of this name
abbrev pub is_file_of : List ℕ → Item → Bool
is_file_of name item = pointwise nat_eq item.name name && is_file item.kind

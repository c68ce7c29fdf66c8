-- The one text of a file or directory object. docs/FORMATS.md, "File and directory objects". Read text_of first.
-- It is compact JSON with sorted keys; the entries of a directory stand in descending byte order of name.
use Rattle.std.specs.Prelude.{◌≡◌, ℕ, ℤ, List, [], ◌∷◌, map, reverse, codes, if◌then◌else◌}
use Rattle.std.specs.BTreeMap.{insert_entry}
use Rattle.std.specs.Cmp.Lexicographic.{slice_cmp}
use Rattle.std.specs.List.Sorted.{IsPermutation}
use Rattle.std.specs.Map.{values_of}
use Rattle.std.specs.Ordering.{nat_cmp}
use Rattle.serde_json.specs.Data.{Data, number, string, array, object, unsigned, member, no_members}
use Rattle.serde_json.specs.Find.{of_integer}
use Rattle.serde_json.specs.View.{items_of}
use Rattle.serde_json.specs.Written.{compact_text}
use Rattle.json_words.specs.IdText.{id_data}
use Rattle.fs_objects.specs.Mode.{is_file_mode}
use Rattle.fs_objects.specs.declared.dirent.Dirent.{Dirent}
use Rattle.fs_objects.specs.declared.file_object.FileObject.{FileObject}
use Rattle.fs_objects.specs.declared.fs_object.FsObject.{FsObject}
use Rattle.fs_objects.specs.declared.fs_object.FsObject.TheVariants.{File, Dir}

-- a file, of which the blocks are given as values
unfoldable pub file_with : List Data → ℕ → Data
file_with blocks size =
    object (member (codes "block_ids") (array (items_of blocks))
    (member (codes "size") (number (unsigned size))
    (member (codes "type") (number (unsigned 1))
    (member (codes "version") (number (unsigned 1)) no_members))))

abbrev pub file_data : FileObject → Data
file_data file = file_with (map id_data file.blocks) file.size

-- an entry of a file
unfoldable pub file_entry_with : Data → ℕ → List ℕ → ℤ → List ℕ → ℕ → Data
file_entry_with id mode modifier mtime name size =
    object (member (codes "id") id
    (member (codes "mode") (number (unsigned mode))
    (member (codes "modifier") (string modifier)
    (member (codes "mtime") (number (of_integer mtime))
    (member (codes "name") (string name)
    (member (codes "size") (number (unsigned size)) no_members))))))

-- an entry of a directory
unfoldable pub directory_entry_with : Data → ℕ → ℤ → List ℕ → Data
directory_entry_with id mode mtime name =
    object (member (codes "id") id
    (member (codes "mode") (number (unsigned mode))
    (member (codes "mtime") (number (of_integer mtime))
    (member (codes "name") (string name) no_members))))

abbrev pub entry_data : Dirent → Data
entry_data entry =
    if is_file_mode entry.mode
    then file_entry_with (id_data entry.id) entry.mode entry.modifier entry.mtime entry.name entry.size
    else directory_entry_with (id_data entry.id) entry.mode entry.mtime entry.name

-- a directory, of which the entries are given as values
unfoldable pub directory_with : List Data → Data
directory_with entries =
    object (member (codes "dirents") (array (items_of entries))
    (member (codes "type") (number (unsigned 3))
    (member (codes "version") (number (unsigned 1)) no_members)))

-- some entries under their names, and then the others, in ascending byte order of name
abbrev pub placed : List (List ℕ × Dirent) → List Dirent → List (List ℕ × Dirent)
placed before [] = before
placed before (entry ∷ entries) = placed (insert_entry (slice_cmp nat_cmp) before entry.name entry) entries

-- the entries in descending byte order of name
unfoldable pub in_written_order : List Dirent → List Dirent
in_written_order entries = reverse (values_of (placed [] entries))

-- the object with its entries in the order in which they are written
abbrev pub as_written : FsObject → FsObject
as_written (File file) = File file
as_written (Dir entries) = Dir (in_written_order entries)

-- the value that is written
abbrev pub data_of : FsObject → Data
data_of (File file) = file_data file
data_of (Dir entries) = directory_with (map entry_data (in_written_order entries))

-- the text of an object
abbrev pub text_of : FsObject → List ℕ
text_of value = compact_text (data_of value)

-- an object that differs from another in the order of its entries at most
abbrev pub HasSameEntries : FsObject → FsObject → Type 0
HasSameEntries (File file) other = other ≡ File file
HasSameEntries (Dir entries) (File file) = ⊥
HasSameEntries (Dir entries) (Dir others) = IsPermutation entries others

-- The one text of an index: compact JSON with sorted keys, entries in byte order of path. docs/FORMATS.md, "Index text".
-- Read text_of, then IsProper.
use Rattle.std.specs.Prelude.{◌≡◌, ◌≢◌, ℕ, ℤ, List, [], map, true, codes, Option, Some, None, ⊤}
use Rattle.std.specs.FinMap as fin
use Rattle.uuid.specs.Text.{hyphenated_text, lower}
use Rattle.ids.specs.ObjectId.{nil}
use Rattle.serde_json.specs.Data.{Data, null, number, string, array, object, unsigned, member, no_members}
use Rattle.serde_json.specs.Find.{of_integer}
use Rattle.serde_json.specs.View.{items_of}
use Rattle.serde_json.specs.Written.{compact_text}
use Rattle.json_words.specs.IdText.{id_data}
use Rattle.fs_objects.specs.Mode.{is_file_mode}
use Rattle.tree_model.specs.Path.{PathV, path_text}
use Rattle.local_index.specs.IndexText.{all_stand}
use Rattle.local_index.specs.declared.index.Index.{Index}
use Rattle.local_index.specs.declared.index.Known.{Known}
use Rattle.local_index.specs.declared.index.Known.TheVariants.{Dir, File}

-- a directory's entry
unfoldable pub directory_with : List ℕ → Data
directory_with path = object (member (codes "path") (string path) no_members)

-- a file's entry, of which the ids are given as values
unfoldable pub file_with : Data → ℕ → List ℕ → ℤ → Data → List ℕ → ℕ → Data
file_with id mode modifier mtime own path size =
    object (member (codes "id") id
    (member (codes "mode") (number (unsigned mode))
    (member (codes "modifier") (string modifier)
    (member (codes "mtime") (number (of_integer mtime))
    (member (codes "own") own
    (member (codes "path") (string path)
    (member (codes "size") (number (unsigned size)) no_members)))))))

abbrev pub known_data : PathV → Known → Data
known_data path Dir = directory_with (path_text path)
known_data path (File id own size mode mtime modifier) = file_with (id_data id) mode modifier mtime (id_data own) (path_text path) size

abbrev pub entry_data : PathV × Known → Data
entry_data entry = known_data entry.0 entry.1

abbrev pub base_data : Option (List ℕ) → Data
base_data None = null
base_data (Some id) = id_data id

-- an index, of which the values are given
unfoldable pub index_with : Data → List Data → Data → Data
index_with base entries lib =
    object (member (codes "base") base
    (member (codes "entries") (array (items_of entries))
    (member (codes "lib") lib
    (member (codes "version") (number (unsigned 1)) no_members))))

abbrev pub index_data : Index → Data
index_data index = index_with (base_data index.base) (map entry_data (fin.entries index.entries)) (string (hyphenated_text lower index.lib))

-- the text of an index
abbrev pub text_of : Index → List ℕ
text_of index = compact_text (index_data index)

-- ---- what `read` tells of each index, and what an index must have to be read as what was written

abbrev pub HasFileMode : Known → Type 0
HasFileMode Dir = ⊤
HasFileMode (File id own size mode mtime modifier) = is_file_mode mode ≡ true

-- the base isn't forty zeros, the root has no entry, each entry stands in a directory, and a file has the mode of one
pub record IsProper (index : Index) : Type 0 where
  pub base : index.base ≢ Some nil
  pub no_root : fin.get index.entries [] ≡ None
  pub stands : all_stand index.entries ≡ true
  pub modes : (path : PathV) (known : Known) → fin.get index.entries path ≡ Some known → HasFileMode known

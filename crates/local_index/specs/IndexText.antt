-- What the bytes of an index text are read as, or the first failing check. docs/FORMATS.md, "Index text".
-- Read index_of first.
use Rattle.std.specs.Prelude.{ℕ, ◌==◌, ◌^◌, ◌-◌, not, Bool, true, false, List, [], ◌∷◌, codes, if◌then◌else◌, Option, Some, None, is_some, Result, Ok, Err, ⊤}
use Rattle.std.specs.List.{list_all}
use Rattle.std.specs.FinMap as map
use Rattle.serde_json.specs.Data.{Data}
use Rattle.serde_json.specs.Find.{as_null}
use Rattle.fs_objects.specs.Mode.{is_file_mode}
use Rattle.json_words.specs.Check.{◌>>=◌, holds, ok_or, result_map}
use Rattle.json_words.specs.Fields.{is_object, field, number_field, number_between, integer_field, text_field, array_field, has_only}
use Rattle.json_words.specs.IdText.{id_field, stored_id_in, library_id_of}
use Rattle.json_words.specs.JsonText.{json_of}
use Rattle.json_words.specs.declared.fields.FieldFault.{FieldFault}
use Rattle.tree_model.specs.Path.{PathV, path_cmp, path_of, parent_of}
use Rattle.local_index.specs.declared.fault.IndexKey.{IndexKey}
use Rattle.local_index.specs.declared.fault.IndexKey.TheVariants.{Whole, Version, Lib, Base, Entries, Extra}
use Rattle.local_index.specs.declared.index.Index.{Index}
use Rattle.local_index.specs.declared.index.Known.{Known}
use Rattle.local_index.specs.declared.index.Known.TheVariants.{Dir, File}

abbrev pub KnownPaths : Type 0
KnownPaths = map.FinMap path_cmp Known

-- a field, with its fault told as that of a key
abbrev pub at_key : {A : Type 0} → IndexKey → Result A FieldFault → Result A IndexKey
at_key key (Ok found) = Ok found
at_key key (Err fault) = Err key

unfoldable pub path_in : Data → Result PathV IndexKey
path_in d = do
  text ← at_key Entries (text_field (codes "path") d)
  ok_or (path_of text) Entries

-- ---- entries

-- a mode below 2^32, of a regular file
unfoldable pub mode_in : Data → Result ℕ IndexKey
mode_in d = do
  mode ← at_key Entries (number_between 0 (2 ^ 32 - 1) (codes "mode") d)
  file ← holds (is_file_mode mode) Entries
  Ok mode

-- the keys of a file's entry
unfoldable pub file_keys : List (List ℕ)
file_keys = codes "id" ∷ codes "mode" ∷ codes "modifier" ∷ codes "mtime" ∷ codes "own" ∷ codes "path" ∷ codes "size" ∷ []

unfoldable pub file_in : Data → Result Known IndexKey
file_in d = do
  only ← holds (has_only file_keys d) Entries
  id ← at_key Entries (id_field (codes "id") d)
  mode ← mode_in d
  modifier ← at_key Entries (text_field (codes "modifier") d)
  mtime ← at_key Entries (integer_field (codes "mtime") d)
  own ← at_key Entries (id_field (codes "own") d)
  size ← at_key Entries (number_field (codes "size") d)
  Ok (File id own size mode mtime modifier)

-- an entry with its path alone is a directory
unfoldable pub known_in : Data → Result Known IndexKey
known_in d = if has_only (codes "path" ∷ []) d then Ok Dir else file_in d

-- an entry more, at a path that has none yet
unfoldable pub with_entry : KnownPaths → Data → Result KnownPaths IndexKey
with_entry entries d = do
  path ← path_in d
  known ← known_in d
  new ← holds (not (is_some (map.get entries path))) Entries
  Ok (map.insert entries path known)

abbrev pub with_entries : KnownPaths → List Data → Result KnownPaths IndexKey
with_entries entries [] = Ok entries
with_entries entries (d ∷ ds) = with_entry entries d >>= (λ more. with_entries more ds)

-- the root, or a directory of the entries
abbrev pub is_known_dir : Option Known → Bool
is_known_dir None = false
is_known_dir (Some Dir) = true
is_known_dir (Some (File id own size mode mtime modifier)) = false

abbrev pub is_dir_in : KnownPaths → PathV → Bool
is_dir_in entries [] = true
is_dir_in entries (name ∷ path) = is_known_dir (map.get entries (name ∷ path))

-- each entry stands in a directory
abbrev pub all_stand : KnownPaths → Bool
all_stand entries = list_all (λ entry. is_dir_in entries (parent_of entry.0)) (map.entries entries)

unfoldable pub entries_in : Data → Result KnownPaths IndexKey
entries_in d = do
  items ← at_key Entries (array_field (codes "entries") d)
  entries ← with_entries map.empty items
  inside ← holds (all_stand entries) Entries
  Ok entries

-- ---- the whole text

unfoldable pub right_version : Data → Result ⊤ IndexKey
right_version d = do
  version ← at_key Version (number_field (codes "version") d)
  holds (version == 1) Version

unfoldable pub library_in : Data → Result (List ℕ) IndexKey
library_in d = do
  text ← at_key Lib (text_field (codes "lib") d)
  ok_or (library_id_of text) Lib

-- null, or an id other than forty zeros
abbrev pub base_from : Data → Result (Option (List ℕ)) IndexKey
base_from d = if is_some (as_null d) then Ok None else result_map Some (ok_or (stored_id_in d) Base)

unfoldable pub base_in : Data → Result (Option (List ℕ)) IndexKey
base_in d = at_key Base (field (codes "base") d) >>= base_from

-- the keys of an index text
unfoldable pub index_keys : List (List ℕ)
index_keys = codes "base" ∷ codes "entries" ∷ codes "lib" ∷ codes "version" ∷ []

unfoldable pub index_in : Data → Result Index IndexKey
index_in d = do
  version ← right_version d
  lib ← library_in d
  base ← base_in d
  entries ← entries_in d
  only ← holds (has_only index_keys d) Extra
  Ok (record { lib = lib; base = base; entries = entries })

-- the index that some bytes are the text of
unfoldable pub index_of : List ℕ → Result Index IndexKey
index_of bytes = do
  d ← ok_or (json_of bytes) Whole
  object ← holds (is_object d) Whole
  index_in d

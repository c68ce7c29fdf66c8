-- What a directory object is read as, or the first failing check. docs/FORMATS.md, "File and directory objects".
-- Entries are checked one after another, each in full. Read entry_of, then directory_of.
use Rattle.std.specs.Prelude.{ℕ, ◌-◌, ◌^◌, ◌||◌, ℤ, Bool, not, List, [], ◌∷◌, ◌++◌, length, map, if◌then◌else◌, is_none, Result, Ok, Err}
use Rattle.std.specs.List.{list_any}
use Rattle.std.specs.Str.{bytes_eq}
use Rattle.serde_json.specs.Data.{Data}
use Rattle.tree_model.specs.Name.{name_fault}
use Rattle.json_words.specs.Check.{◌>>=◌, holds}
use Rattle.json_words.specs.Fields.{is_object, array_field, number_field, number_between, integer_field, text_field}
use Rattle.json_words.specs.IdText.{id_field}
use Rattle.fs_objects.specs.FsKey.{key_text, at_key}
use Rattle.fs_objects.specs.Mode.{is_file_mode, is_directory_mode}
use Rattle.fs_objects.specs.declared.fault.BadFs.{BadFs}
use Rattle.fs_objects.specs.declared.fault.BadFs.TheVariants.{WrongType, BadName, Twice}
use Rattle.fs_objects.specs.declared.fault.FsKey.TheVariants.{KDirents, KId, KMode, KMtime, KName, KModifier, KSize}
use Rattle.fs_objects.specs.declared.dirent.Dirent.{Dirent}

-- the names of entries, in order
abbrev pub names_of : List Dirent → List (List ℕ)
names_of entries = map (λ entry. entry.name) entries

-- whether one of the names is this one
abbrev pub is_taken : List (List ℕ) → List ℕ → Bool
is_taken names name = list_any (bytes_eq name) names

-- what is read of an entry up to its name
pub record Head : Type 0 where
  pub id : List ℕ
  pub mode : ℕ
  pub mtime : ℤ
  pub name : List ℕ

-- a mode is one of a file or of a directory
unfoldable pub known_mode : ℕ → Result ℕ BadFs
known_mode mode = if is_file_mode mode || is_directory_mode mode then Ok mode else Err (WrongType KMode)

unfoldable pub mode_of : Data → Result ℕ BadFs
mode_of d = do
  mode ← at_key KMode (number_between 0 (2 ^ 32 - 1) (key_text KMode) d)
  known_mode mode

-- an entry up to its name, at its place from 0
unfoldable pub head_of : ℕ → Data → Result Head BadFs
head_of place d = do
  object ← holds (is_object d) (WrongType KDirents)
  id ← at_key KId (id_field (key_text KId) d)
  mode ← mode_of d
  mtime ← at_key KMtime (integer_field (key_text KMtime) d)
  name ← at_key KName (text_field (key_text KName) d)
  good ← holds (is_none (name_fault name)) (BadName place)
  Ok (record { id = id; mode = mode; mtime = mtime; name = name })

-- who changed a file last, and its size; a directory has neither
pub record Details : Type 0 where
  pub modifier : List ℕ
  pub size : ℕ

unfoldable pub file_details_of : Data → Result Details BadFs
file_details_of d = do
  modifier ← at_key KModifier (text_field (key_text KModifier) d)
  size ← at_key KSize (number_field (key_text KSize) d)
  Ok (record { modifier = modifier; size = size })

unfoldable pub details_of : ℕ → Data → Result Details BadFs
details_of mode d = if is_file_mode mode then file_details_of d else Ok (record { modifier = []; size = 0 })

-- the whole entry, of which the head was read
unfoldable pub entry_from : Head → Data → Result Dirent BadFs
entry_from head d = do
  details ← details_of head.mode d
  Ok (record {
    name = head.name;
    id = head.id;
    mode = head.mode;
    mtime = head.mtime;
    modifier = details.modifier;
    size = details.size;
  })

-- an entry after the earlier ones, none of which has its name
unfoldable pub entry_of : List Dirent → Data → Result Dirent BadFs
entry_of earlier d = do
  head ← head_of (length earlier) d
  new ← holds (not (is_taken (names_of earlier) head.name)) (Twice (length earlier))
  entry_from head d

-- the earlier entries and then those of the items, each checked after all before it
abbrev pub entries_after : List Dirent → List Data → Result (List Dirent) BadFs
entries_after earlier [] = Ok earlier
entries_after earlier (d ∷ ds) = entry_of earlier d >>= (λ entry. entries_after (earlier ++ entry ∷ []) ds)

-- the entries in the order of the text
unfoldable pub directory_of : Data → Result (List Dirent) BadFs
directory_of d = do
  items ← at_key KDirents (array_field (key_text KDirents) d)
  entries_after [] items

-- What the bytes of a file or directory object are read as, or the first failing check.
-- docs/FORMATS.md, "File and directory objects". Read fs_of first.
use Rattle.std.specs.Prelude.{ℕ, ◌==◌, ◌||◌, List, if◌then◌else◌, Result, Ok, ⊤}
use Rattle.serde_json.specs.Data.{Data}
use Rattle.json_words.specs.Check.{◌>>=◌, holds, ok_or, result_map}
use Rattle.json_words.specs.Fields.{is_object, number_field}
use Rattle.json_words.specs.JsonText.{json_of}
use Rattle.fs_objects.specs.Directory.{directory_of}
use Rattle.fs_objects.specs.File.{file_of}
use Rattle.fs_objects.specs.FsKey.{key_text, at_key}
use Rattle.fs_objects.specs.declared.fault.BadFs.{BadFs}
use Rattle.fs_objects.specs.declared.fault.BadFs.TheVariants.{NotJson, WrongType, BadVersion}
use Rattle.fs_objects.specs.declared.fault.FsKey.TheVariants.{KType, KVersion}
use Rattle.fs_objects.specs.declared.fs_object.FsObject.{FsObject}
use Rattle.fs_objects.specs.declared.fs_object.FsObject.TheVariants.{File, Dir}

-- 1 for a file, 3 for a directory
unfoldable pub type_of : Data → Result ℕ BadFs
type_of d = do
  number ← at_key KType (number_field (key_text KType) d)
  known ← holds (number == 1 || number == 3) (WrongType KType)
  Ok number

-- the version of the format is 1
unfoldable pub right_version : Data → Result ⊤ BadFs
right_version d = do
  version ← at_key KVersion (number_field (key_text KVersion) d)
  holds (version == 1) (BadVersion version)

unfoldable pub object_in : Data → Result FsObject BadFs
object_in d = do
  number ← type_of d
  right ← right_version d
  if number == 1 then result_map File (file_of d) else result_map Dir (directory_of d)

-- the object that some bytes are the text of
unfoldable pub fs_of : List ℕ → Result FsObject BadFs
fs_of bytes = do
  d ← ok_or (json_of bytes) NotJson
  object ← holds (is_object d) NotJson
  object_in d

-- What a file object is read as, or the first failing check. docs/FORMATS.md, "File and directory objects".
-- Read file_of first.
use Rattle.std.specs.Prelude.{ℕ, List, Result, Ok}
use Rattle.serde_json.specs.Data.{Data}
use Rattle.json_words.specs.Check.{◌>>=◌, each, ok_or}
use Rattle.json_words.specs.Fields.{array_field, number_field}
use Rattle.json_words.specs.IdText.{stored_id_in}
use Rattle.fs_objects.specs.FsKey.{key_text, at_key}
use Rattle.fs_objects.specs.declared.fault.BadFs.{BadFs}
use Rattle.fs_objects.specs.declared.fault.BadFs.TheVariants.{WrongType}
use Rattle.fs_objects.specs.declared.fault.FsKey.TheVariants.{KBlockIds, KSize}
use Rattle.fs_objects.specs.declared.file_object.FileObject.{FileObject}

-- the id of a block: the text of an id other than forty zeros
abbrev pub block_of : Data → Result (List ℕ) BadFs
block_of d = ok_or (stored_id_in d) (WrongType KBlockIds)

-- the blocks in order, and the size
unfoldable pub file_of : Data → Result FileObject BadFs
file_of d = do
  items ← at_key KBlockIds (array_field (key_text KBlockIds) d)
  blocks ← each block_of items
  size ← at_key KSize (number_field (key_text KSize) d)
  Ok (record { blocks = blocks; size = size })

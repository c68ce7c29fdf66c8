-- For private clauses: what was read of the members of an object so far, and the object that they make.
-- Read IsPartsOf, then object_from.
use Rattle.std.specs.Prelude.{◌≡◌, ◌≢◌, ◌==◌, ◌||◌, ℕ, List, [], if◌then◌else◌, All, IfOk, Result, Ok, ⊤}
use Rattle.ids.specs.ObjectId.{nil}
use Rattle.json.specs.Token.{Token}
use Rattle.serde_json.specs.Data.{Data, Members, object, put}
use Rattle.json_words.specs.Check.{◌>>=◌, each, holds, result_map}
use Rattle.json_words.specs.Fields.{array_field, number_field}
use Rattle.json_tokens.specs.Front.{FrontIs}
use Rattle.json_words.specs.declared.answer.ReadFault.{ReadFault}
use Rattle.json_words.specs.declared.answer.ReadFault.TheVariants.{Bad, NoMemory}
use Rattle.json_words.specs.declared.fields.FieldFault.{FieldFault}
use Rattle.json_words.specs.declared.answer.NotJson as json_words
use Rattle.fs_objects.specs.Directory.{entries_after}
use Rattle.fs_objects.specs.File.{block_of}
use Rattle.fs_objects.specs.FsKey.{key_text, at_key}
use Rattle.fs_objects.specs.Proper.{IsProperEntry}
use Rattle.fs_objects.specs.Reading.{told}
use Rattle.fs_objects.specs.declared.dirent.Dirent.{Dirent}
use Rattle.fs_objects.specs.declared.directory_reading.EntriesRead.{EntriesRead}
use Rattle.fs_objects.specs.declared.fault.BadFs.{BadFs}
use Rattle.fs_objects.specs.declared.fault.BadFs.TheVariants.{NotJson, WrongType, BadVersion}
use Rattle.fs_objects.specs.declared.fault.FsKey.{FsKey}
use Rattle.fs_objects.specs.declared.fault.FsKey.TheVariants.{KType, KVersion, KBlockIds, KSize, KDirents}
use Rattle.fs_objects.specs.declared.file_object.FileObject.{FileObject}
use Rattle.fs_objects.specs.declared.file_reading.BlocksRead.{BlocksRead}
use Rattle.fs_objects.specs.declared.fs_object.FsObject.{FsObject}
use Rattle.fs_objects.specs.declared.fs_object.FsObject.TheVariants.{File, Dir}
use Rattle.fs_objects.specs.declared.parts.Parts.{Parts}

-- the entries that were read, or the first fault
abbrev pub entries_told : EntriesRead → Result (List Dirent) BadFs
entries_told list = told list.fault list.entries

-- the blocks that were read, or the first fault
abbrev pub blocks_told : BlocksRead → Result (List (List ℕ)) BadFs
blocks_told list = told list.fault list.blocks

-- each entry is proper
abbrev pub HasProperEntries : EntriesRead → Type 0
HasProperEntries list = All IsProperEntry list.entries

-- no block is forty zeros
abbrev pub HasProperBlocks : BlocksRead → Type 0
HasProperBlocks list = All (λ id. id ≢ nil) list.blocks

-- each part is what its field of an object with these members is read as
pub record IsPartsOf (found : Members) (parts : Parts) : Type 0 where
  pub kind : parts.kind ≡ number_field (key_text KType) (object found)
  pub version : parts.version ≡ number_field (key_text KVersion) (object found)
  pub size : parts.size ≡ number_field (key_text KSize) (object found)
  pub dirents : result_map entries_told parts.dirents
      ≡ result_map (entries_after []) (array_field (key_text KDirents) (object found))
  pub block_ids : result_map blocks_told parts.block_ids
      ≡ result_map (each block_of) (array_field (key_text KBlockIds) (object found))

-- what is listed in the parts is proper
pub record AreProper (parts : Parts) : Type 0 where
  pub entries : IfOk parts.dirents HasProperEntries
  pub blocks : IfOk parts.block_ids HasProperBlocks

-- how deep a member of the whole object may nest
abbrev pub member_depth : ℕ
member_depth = 126

-- a value stands at the front, and the parts are then those of the members with it at the key
pub record IsMember (key : List ℕ) (old new : List Token) (before after : Parts) : Type 0 where
  pub d : Data
  pub front : FrontIs member_depth old d new
  pub parts : (found : Members) → IsPartsOf found before → IsPartsOf (put key d found) after

-- a list under a key, or the first fault
abbrev pub listed : {A : Type 0} → FsKey → Result (Result A BadFs) FieldFault → Result A BadFs
listed key slot = at_key key slot >>= (λ list. list)

-- 1 for a file, 3 for a directory
unfoldable pub kind_from : Result ℕ FieldFault → Result ℕ BadFs
kind_from slot = do
  number ← at_key KType slot
  known ← holds (number == 1 || number == 3) (WrongType KType)
  Ok number

-- the version of the format is 1
unfoldable pub version_from : Result ℕ FieldFault → Result ⊤ BadFs
version_from slot = do
  version ← at_key KVersion slot
  holds (version == 1) (BadVersion version)

-- the blocks, and then the size
unfoldable pub file_from : Result BlocksRead FieldFault → Result ℕ FieldFault → Result FileObject BadFs
file_from slot number = do
  blocks ← listed KBlockIds (result_map blocks_told slot)
  size ← at_key KSize number
  Ok (record { blocks = blocks; size = size })

unfoldable pub directory_from : Result EntriesRead FieldFault → Result (List Dirent) BadFs
directory_from slot = listed KDirents (result_map entries_told slot)

-- the object that the parts make, or the first failing check
unfoldable pub object_from : Parts → Result FsObject BadFs
object_from parts = do
  number ← kind_from parts.kind
  right ← version_from parts.version
  if number == 1 then result_map File (file_from parts.block_ids parts.size) else result_map Dir (directory_from parts.dirents)

-- the fault of a part, told of the whole
abbrev pub fault_of : ReadFault json_words.NotJson → ReadFault BadFs
fault_of (Bad bad) = Bad NotJson
fault_of NoMemory = NoMemory

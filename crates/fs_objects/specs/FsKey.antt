-- The keys of file and directory objects, and the faults told at them. docs/FORMATS.md, "File and directory objects".
use Rattle.std.specs.Prelude.{ℕ, List, codes, Result, Ok, Err}
use Rattle.json_words.specs.declared.fields.FieldFault.{FieldFault}
use Rattle.json_words.specs.declared.fields.FieldFault.TheVariants as field
use Rattle.fs_objects.specs.declared.fault.BadFs.{BadFs}
use Rattle.fs_objects.specs.declared.fault.BadFs.TheVariants.{NotJson, Missing, WrongType, BadVersion, BadName, Twice}
use Rattle.fs_objects.specs.declared.fault.FsKey.{FsKey}
use Rattle.fs_objects.specs.declared.fault.FsKey.TheVariants.{KType, KVersion, KBlockIds, KSize, KDirents, KId, KMode, KMtime, KName, KModifier}

-- the key as it is written
abbrev pub key_text : FsKey → List ℕ
key_text KType = codes "type"
key_text KVersion = codes "version"
key_text KBlockIds = codes "block_ids"
key_text KSize = codes "size"
key_text KDirents = codes "dirents"
key_text KId = codes "id"
key_text KMode = codes "mode"
key_text KMtime = codes "mtime"
key_text KName = codes "name"
key_text KModifier = codes "modifier"

-- a field's fault at its key
abbrev pub fault_at : FsKey → FieldFault → BadFs
fault_at key field.Missing = Missing key
fault_at key field.WrongType = WrongType key

-- a field, with its fault told at its key
abbrev pub at_key : {A : Type 0} → FsKey → Result A FieldFault → Result A BadFs
at_key key (Ok found) = Ok found
at_key key (Err fault) = Err (fault_at key fault)

-- the number of a fault in replies
abbrev pub fault_code : BadFs → ℕ
fault_code NotJson = 1
fault_code (Missing key) = 2
fault_code (WrongType key) = 3
fault_code (BadVersion version) = 4
fault_code (BadName place) = 5
fault_code (Twice place) = 6

-- The keys of commits, and the faults told at them. docs/FORMATS.md, "Commits".
use Rattle.std.specs.Prelude.{ℕ, List, codes, Result, Ok, Err}
use Rattle.json_words.specs.declared.fields.FieldFault.{FieldFault}
use Rattle.json_words.specs.declared.fields.FieldFault.TheVariants as field
use Rattle.commit_objects.specs.declared.fault.BadCommit.{BadCommit}
use Rattle.commit_objects.specs.declared.fault.BadCommit.TheVariants.{NotJson, Missing, WrongType, BadId}
use Rattle.commit_objects.specs.declared.fault.CommitKey.{CommitKey}
use Rattle.commit_objects.specs.declared.fault.CommitKey.TheVariants.{KCommitId, KRootId, KRepoId, KCtime, KParentId, KSecondParentId, KCreator, KCreatorName, KDescription, KConflict}

-- the key as it is written
abbrev pub key_text : CommitKey → List ℕ
key_text KCommitId = codes "commit_id"
key_text KRootId = codes "root_id"
key_text KRepoId = codes "repo_id"
key_text KCtime = codes "ctime"
key_text KParentId = codes "parent_id"
key_text KSecondParentId = codes "second_parent_id"
key_text KCreator = codes "creator"
key_text KCreatorName = codes "creator_name"
key_text KDescription = codes "description"
key_text KConflict = codes "conflict"

-- a field's fault at its key
abbrev pub fault_at : CommitKey → FieldFault → BadCommit
fault_at key field.Missing = Missing key
fault_at key field.WrongType = WrongType key

-- a field, with its fault told at its key
abbrev pub at_key : {A : Type 0} → CommitKey → Result A FieldFault → Result A BadCommit
at_key key (Ok found) = Ok found
at_key key (Err fault) = Err (fault_at key fault)

-- the number of a fault in replies
abbrev pub fault_code : BadCommit → ℕ
fault_code NotJson = 1
fault_code (Missing key) = 2
fault_code (WrongType key) = 3
fault_code (BadId key) = 4

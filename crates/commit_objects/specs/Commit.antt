-- What the bytes of a commit are read as, or the first failing check. docs/FORMATS.md, "Commits".
-- Read commit_of first. Whether a commit's id is that of its text is not asked.
use Rattle.std.specs.Prelude.{ℕ, ◌==◌, Bool, true, false, not, List, [], Option, Some, None, option_and_then, unwrap_or, Result, Ok}
use Rattle.std.specs.Option.{option_or}
use Rattle.serde_json.specs.Data.{Data, Num, unsigned, negative, float}
use Rattle.serde_json.specs.Find.{as_bool, as_number}
use Rattle.json_words.specs.Check.{◌>>=◌, holds, ok_or, result_map}
use Rattle.json_words.specs.Fields.{is_object, number_field, text_field, optional_text, optional_field}
use Rattle.json_words.specs.IdText.{object_id_of, library_id_of, unless_nil}
use Rattle.json_words.specs.JsonText.{json_of}
use Rattle.commit_objects.specs.CommitKey.{key_text, at_key}
use Rattle.commit_objects.specs.declared.commit.Commit.{Commit}
use Rattle.commit_objects.specs.declared.fault.BadCommit.{BadCommit}
use Rattle.commit_objects.specs.declared.fault.BadCommit.TheVariants.{NotJson, WrongType, BadId}
use Rattle.commit_objects.specs.declared.fault.CommitKey.{CommitKey}
use Rattle.commit_objects.specs.declared.fault.CommitKey.TheVariants.{KCommitId, KRootId, KRepoId, KCtime, KParentId, KSecondParentId, KCreator, KCreatorName, KDescription, KConflict}

-- the id other than forty zeros that a text is
unfoldable pub stored_id_of : List ℕ → Option (List ℕ)
stored_id_of text = option_and_then unless_nil (object_id_of text)

-- a text that is an id
unfoldable pub id_at : CommitKey → Data → Result (List ℕ) BadCommit
id_at key d = do
  text ← at_key key (text_field (key_text key) d)
  ok_or (object_id_of text) (BadId key)

-- a text that is an id other than forty zeros
unfoldable pub stored_id_at : CommitKey → Data → Result (List ℕ) BadCommit
stored_id_at key d = do
  text ← at_key key (text_field (key_text key) d)
  ok_or (stored_id_of text) (BadId key)

-- a text that is a library id
unfoldable pub library_id_at : CommitKey → Data → Result (List ℕ) BadCommit
library_id_at key d = do
  text ← at_key key (text_field (key_text key) d)
  ok_or (library_id_of text) (BadId key)

-- a parent's id, or none where the field is absent or null
abbrev pub parent_from : CommitKey → Option (List ℕ) → Result (Option (List ℕ)) BadCommit
parent_from key None = Ok None
parent_from key (Some text) = result_map Some (ok_or (stored_id_of text) (BadId key))

unfoldable pub parent_at : CommitKey → Data → Result (Option (List ℕ)) BadCommit
parent_at key d = at_key key (optional_text (key_text key) d) >>= parent_from key

-- a text, which is empty where the field is absent or null
unfoldable pub text_at : CommitKey → Data → Result (List ℕ) BadCommit
text_at key d = result_map (λ text. unwrap_or text []) (at_key key (optional_text (key_text key) d))

-- whether a whole number is other than 0
abbrev pub is_nonzero : Num → Option Bool
is_nonzero (unsigned n) = Some (not (n == 0))
is_nonzero (negative z) = Some true
is_nonzero (float x) = None

-- a truth value, or a whole number in its place
unfoldable pub flag_in : Data → Option Bool
flag_in d = option_or (as_bool d) (option_and_then is_nonzero (as_number d))

abbrev pub conflict_from : Option Data → Result Bool BadCommit
conflict_from None = Ok false
conflict_from (Some d) = ok_or (flag_in d) (WrongType KConflict)

-- false where the field is absent or null
unfoldable pub conflict_at : Data → Result Bool BadCommit
conflict_at d = conflict_from (optional_field (key_text KConflict) d)

unfoldable pub commit_in : Data → Result Commit BadCommit
commit_in d = do
  id ← stored_id_at KCommitId d
  root ← id_at KRootId d
  lib ← library_id_at KRepoId d
  ctime ← at_key KCtime (number_field (key_text KCtime) d)
  parent ← parent_at KParentId d
  second_parent ← parent_at KSecondParentId d
  creator ← text_at KCreator d
  creator_name ← text_at KCreatorName d
  description ← text_at KDescription d
  conflict ← conflict_at d
  Ok (record {
    id = id;
    lib = lib;
    root = root;
    parent = parent;
    second_parent = second_parent;
    creator = creator;
    creator_name = creator_name;
    description = description;
    ctime = ctime;
    conflict = conflict;
  })

-- the commit that some bytes are the text of
unfoldable pub commit_of : List ℕ → Result Commit BadCommit
commit_of bytes = do
  d ← ok_or (json_of bytes) NotJson
  object ← holds (is_object d) NotJson
  commit_in d

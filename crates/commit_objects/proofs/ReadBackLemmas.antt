-- The written value of a commit is read as the commit. The key lemma is commit_of-data_of.
use Rattle.std.proofs.Common.{◌≡◌, ◌≢◌, ℕ, List, Bool, true, false, Option, Some, None, IfSome, Ok, refl, sym, ap, ◌∙◌}
use Rattle.std.specs.Str.{bytes_eq}
use Rattle.hex.specs.Hex.{encode_lower}
use Rattle.uuid.specs.Text.{hyphenated_text, lower}
use Rattle.ids.specs.ObjectId.{nil}
use Rattle.serde_json.specs.Data.{Data, number, string, unsigned}
use Rattle.serde_json.specs.Find.{get}
use Rattle.json_words.specs.Fields.{is_object}
use Rattle.json_words.specs.IdText.{object_id_of, library_id_of, id_data}
use Rattle.json_words.specs.JsonText.{json_of}
use Rattle.json_words.proofs.FoundLemmas.{number_field-found, text_field-found, optional_text-found, optional_text-null, optional_field-absent, optional_field-number, bytes_eq-apart}
use Rattle.commit_objects.specs.Commit.{stored_id_of, id_at, stored_id_at, library_id_at, parent_at, text_at, flag_in, conflict_at, commit_in, commit_of}
use Rattle.commit_objects.specs.CommitKey.{key_text}
use Rattle.commit_objects.specs.Proper.{IsProper}
use Rattle.commit_objects.specs.Spelling.{parent_data, library_data, members_with, commit_with, data_of}
use Rattle.commit_objects.specs.Typed.{IsTyped}
use Rattle.commit_objects.specs.declared.commit.Commit.{Commit}
use Rattle.commit_objects.specs.declared.fault.CommitKey.{CommitKey}
use Rattle.commit_objects.specs.declared.fault.CommitKey.TheVariants.{KCommitId, KRootId, KRepoId, KCtime, KParentId, KSecondParentId, KCreator, KCreatorName, KDescription, KConflict}

-- the fields of a commit stand in a value as they are written
record Stands (d : Data) (commit : Commit) : Type 0 where
  id : get (key_text KCommitId) d ≡ Some (id_data commit.id)
  root : get (key_text KRootId) d ≡ Some (id_data commit.root)
  lib : get (key_text KRepoId) d ≡ Some (library_data commit.lib)
  ctime : get (key_text KCtime) d ≡ Some (number (unsigned commit.ctime))
  parent : get (key_text KParentId) d ≡ Some (parent_data commit.parent)
  second_parent : get (key_text KSecondParentId) d ≡ Some (parent_data commit.second_parent)
  creator : get (key_text KCreator) d ≡ Some (string commit.creator)
  creator_name : get (key_text KCreatorName) d ≡ Some (string commit.creator_name)
  description : get (key_text KDescription) d ≡ Some (string commit.description)

stored_id_of-found : (id : List ℕ) → object_id_of (encode_lower id) ≡ Some id → id ≢ nil → stored_id_of (encode_lower id) ≡ Some id
unfolding stored_id_of
stored_id_of-found id reads other = rw (reads, bytes_eq-apart id nil (bytes_eq id nil) refl other)

stored_id_at-found : (key : CommitKey) (d : Data) (id : List ℕ) → get (key_text key) d ≡ Some (id_data id) → object_id_of (encode_lower id) ≡ Some id → id ≢ nil → stored_id_at key d ≡ Ok id
unfolding stored_id_at
stored_id_at-found key d id is reads other = rw (text_field-found (key_text key) d (encode_lower id) is, stored_id_of-found id reads other)

id_at-found : (key : CommitKey) (d : Data) (id : List ℕ) → get (key_text key) d ≡ Some (id_data id) → object_id_of (encode_lower id) ≡ Some id → id_at key d ≡ Ok id
unfolding id_at
id_at-found key d id is reads = rw (text_field-found (key_text key) d (encode_lower id) is, reads)

library_id_at-found : (key : CommitKey) (d : Data) (lib : List ℕ) → get (key_text key) d ≡ Some (library_data lib) → library_id_of (hyphenated_text lower lib) ≡ Some lib → library_id_at key d ≡ Ok lib
unfolding library_id_at
library_id_at-found key d lib is reads = rw (text_field-found (key_text key) d (hyphenated_text lower lib) is, reads)

parent_at-found : (key : CommitKey) (d : Data) (parent : Option (List ℕ)) → get (key_text key) d ≡ Some (parent_data parent)
    → IfSome parent (λ id. object_id_of (encode_lower id) ≡ Some id) → IfSome parent (λ id. id ≢ nil) → parent_at key d ≡ Ok parent
unfolding parent_at
parent_at-found key d None is reads other = rw (optional_text-null (key_text key) d is)
parent_at-found key d (Some id) is reads other = rw (optional_text-found (key_text key) d (encode_lower id) is, stored_id_of-found id reads other)

text_at-found : (key : CommitKey) (d : Data) (text : List ℕ) → get (key_text key) d ≡ Some (string text) → text_at key d ≡ Ok text
unfolding text_at
text_at-found key d text is = rw (optional_text-found (key_text key) d text is)

conflict_at-one : (d : Data) → get (key_text KConflict) d ≡ Some (number (unsigned 1)) → conflict_at d ≡ Ok true
unfolding conflict_at flag_in
conflict_at-one d is = rw (optional_field-number (key_text KConflict) d (unsigned 1) is)

conflict_at-absent : (d : Data) → get (key_text KConflict) d ≡ None → conflict_at d ≡ Ok false
unfolding conflict_at
conflict_at-absent d is = rw (optional_field-absent (key_text KConflict) d is)

commit_in-stands : (d : Data) (commit : Commit) → Stands d commit → conflict_at d ≡ Ok commit.conflict → IsTyped commit → IsProper commit → commit_in d ≡ Ok commit
unfolding commit_in
commit_in-stands d commit stands conflict typed proper =
    rw (
      stored_id_at-found KCommitId d commit.id stands.id typed.id proper.id,
      id_at-found KRootId d commit.root stands.root typed.root,
      library_id_at-found KRepoId d commit.lib stands.lib typed.lib,
      number_field-found (key_text KCtime) d commit.ctime stands.ctime,
      parent_at-found KParentId d commit.parent stands.parent typed.parent proper.parent,
      parent_at-found KSecondParentId d commit.second_parent stands.second_parent typed.second_parent proper.second_parent,
      text_at-found KCreator d commit.creator stands.creator,
      text_at-found KCreatorName d commit.creator_name stands.creator_name,
      text_at-found KDescription d commit.description stands.description,
      conflict,
    )

commit_in-with : (commit : Commit) (conflict : Bool) → commit.conflict ≡ conflict → IsTyped commit → IsProper commit
    → commit_in (commit_with conflict (id_data commit.id) (members_with commit.creator commit.creator_name commit.ctime commit.description (parent_data commit.parent) (library_data commit.lib) (id_data commit.root) (parent_data commit.second_parent))) ≡ Ok commit
unfolding members_with
commit_in-with commit true is typed proper =
    let d = commit_with true (id_data commit.id) (members_with commit.creator commit.creator_name commit.ctime commit.description (parent_data commit.parent) (library_data commit.lib) (id_data commit.root) (parent_data commit.second_parent)) in
    commit_in-stands d commit (record { id = refl; root = refl; lib = refl; ctime = refl; parent = refl; second_parent = refl; creator = refl; creator_name = refl; description = refl }) (conflict_at-one d refl ∙ ap Ok (sym is)) typed proper
commit_in-with commit false is typed proper =
    let d = commit_with false (id_data commit.id) (members_with commit.creator commit.creator_name commit.ctime commit.description (parent_data commit.parent) (library_data commit.lib) (id_data commit.root) (parent_data commit.second_parent)) in
    commit_in-stands d commit (record { id = refl; root = refl; lib = refl; ctime = refl; parent = refl; second_parent = refl; creator = refl; creator_name = refl; description = refl }) (conflict_at-absent d refl ∙ ap Ok (sym is)) typed proper

object_with : (conflict : Bool) (commit : Commit) → is_object (commit_with conflict (id_data commit.id) (members_with commit.creator commit.creator_name commit.ctime commit.description (parent_data commit.parent) (library_data commit.lib) (id_data commit.root) (parent_data commit.second_parent))) ≡ true
object_with true commit = refl
object_with false commit = refl

-- bytes with the written value are read as the commit
pub commit_of-data_of : (bytes : List ℕ) (commit : Commit) → json_of bytes ≡ Some (data_of commit) → IsTyped commit → IsProper commit → commit_of bytes ≡ Ok commit
unfolding commit_of data_of
commit_of-data_of bytes commit is typed proper = rw (is, object_with commit.conflict commit) (commit_in-with commit commit.conflict refl typed proper)

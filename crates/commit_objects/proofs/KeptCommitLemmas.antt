-- A commit is read of its own keys alone. The key lemma is value_seen-kept.
use Rattle.std.proofs.Common.{◌≡◌, true, Option, Some, None, option_map, refl, ap, ◌∙◌}
use Rattle.std.specs.List.{list_any}
use Rattle.std.specs.Str.{bytes_eq}
use Rattle.serde_json.specs.Data.{Data}
use Rattle.json_words.specs.Check.{◌>>=◌, holds}
use Rattle.json_words.specs.Fields.{is_object, optional_field}
use Rattle.json_tokens.specs.Kept.{emptied, kept}
use Rattle.json_tokens.proofs.KeptLemmas.{is_object-kept, as_bool-emptied, as_number-emptied, number_field-kept, text_field-kept, optional_text-kept, optional_field-kept}
use Rattle.commit_objects.specs.Commit.{id_at, stored_id_at, library_id_at, parent_at, text_at, flag_in, conflict_from, conflict_at, commit_in}
use Rattle.commit_objects.specs.CommitKey.{key_text}
use Rattle.commit_objects.specs.Reading.{commit_keys, value_seen}
use Rattle.commit_objects.specs.declared.fault.BadCommit.TheVariants.{NotJson}
use Rattle.commit_objects.specs.declared.fault.CommitKey.{CommitKey}
use Rattle.commit_objects.specs.declared.fault.CommitKey.TheVariants.{KCommitId, KRootId, KRepoId, KCtime, KParentId, KSecondParentId, KCreator, KCreatorName, KDescription, KConflict}

key_is_kept : (key : CommitKey) → list_any (bytes_eq (key_text key)) commit_keys ≡ true
key_is_kept KCommitId = refl
key_is_kept KRootId = refl
key_is_kept KRepoId = refl
key_is_kept KCtime = refl
key_is_kept KParentId = refl
key_is_kept KSecondParentId = refl
key_is_kept KCreator = refl
key_is_kept KCreatorName = refl
key_is_kept KDescription = refl
key_is_kept KConflict = refl

-- ---- each field

id_at-kept : (key : CommitKey) (d : Data) → id_at key (kept commit_keys d) ≡ id_at key d
unfolding id_at
id_at-kept key d = rw (text_field-kept commit_keys (key_text key) (key_is_kept key) d)

stored_id_at-kept : (key : CommitKey) (d : Data) → stored_id_at key (kept commit_keys d) ≡ stored_id_at key d
unfolding stored_id_at
stored_id_at-kept key d = rw (text_field-kept commit_keys (key_text key) (key_is_kept key) d)

library_id_at-kept : (key : CommitKey) (d : Data) → library_id_at key (kept commit_keys d) ≡ library_id_at key d
unfolding library_id_at
library_id_at-kept key d = rw (text_field-kept commit_keys (key_text key) (key_is_kept key) d)

parent_at-kept : (key : CommitKey) (d : Data) → parent_at key (kept commit_keys d) ≡ parent_at key d
unfolding parent_at
parent_at-kept key d = rw (optional_text-kept commit_keys (key_text key) (key_is_kept key) d)

text_at-kept : (key : CommitKey) (d : Data) → text_at key (kept commit_keys d) ≡ text_at key d
unfolding text_at
text_at-kept key d = rw (optional_text-kept commit_keys (key_text key) (key_is_kept key) d)

flag_in-emptied : (d : Data) → flag_in (emptied d) ≡ flag_in d
unfolding flag_in
flag_in-emptied d = rw (as_bool-emptied d, as_number-emptied d)

conflict_from-emptied : (value : Option Data) → conflict_from (option_map emptied value) ≡ conflict_from value
conflict_from-emptied None = refl
conflict_from-emptied (Some d) = rw (flag_in-emptied d)

conflict_at-kept : (d : Data) → conflict_at (kept commit_keys d) ≡ conflict_at d
unfolding conflict_at
conflict_at-kept d = ap conflict_from (optional_field-kept commit_keys (key_text KConflict) (key_is_kept KConflict) d) ∙ conflict_from-emptied (optional_field (key_text KConflict) d)

-- ---- the commit

commit_in-kept : (d : Data) → commit_in (kept commit_keys d) ≡ commit_in d
unfolding commit_in
commit_in-kept d =
    rw (
      stored_id_at-kept KCommitId d,
      id_at-kept KRootId d,
      library_id_at-kept KRepoId d,
      number_field-kept commit_keys (key_text KCtime) (key_is_kept KCtime) d,
      parent_at-kept KParentId d,
      parent_at-kept KSecondParentId d,
      text_at-kept KCreator d,
      text_at-kept KCreatorName d,
      text_at-kept KDescription d,
      conflict_at-kept d,
    )

pub value_seen-kept : (value : Option Data) → value_seen (option_map (kept commit_keys) value) ≡ value_seen value
value_seen-kept None = refl
value_seen-kept (Some d) =
    ap (λ is. holds is NotJson >>= (λ object. commit_in (kept commit_keys d))) (is_object-kept commit_keys d)
    ∙ ap (λ commit. holds (is_object d) NotJson >>= (λ object. commit)) (commit_in-kept d)

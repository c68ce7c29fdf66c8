-- An item is read as an entry, or as a block's id, by what is kept of it alone. The key lemma is entry_of-kept.
use Rattle.std.proofs.Common.{◌≡◌, ◌^◌, ◌-◌, ℕ, List, [], ◌∷◌, codes, length, not, Result, Ok, Err, refl, ap}
use Rattle.serde_json.specs.Data.{Data, null, boolean, number, string, array, object}
use Rattle.json_words.specs.Check.{◌>>=◌, holds}
use Rattle.json_words.specs.IdText.{id_in, stored_id_in}
use Rattle.json_tokens.specs.Kept.{kept}
use Rattle.json_tokens.proofs.KeptLemmas.{is_object-kept, id_field-kept, number_field-kept, number_between-kept, integer_field-kept, text_field-kept}
use Rattle.fs_objects.specs.Directory.{Head, is_taken, names_of, mode_of, head_of, file_details_of, details_of, entry_from, entry_of}
use Rattle.fs_objects.specs.declared.dirent.Dirent.{Dirent}
use Rattle.fs_objects.specs.declared.fault.BadFs.{BadFs}
use Rattle.fs_objects.specs.declared.fault.BadFs.TheVariants.{Twice}

-- the keys of an entry
abbrev pub entry_keys : List (List ℕ)
entry_keys = codes "id" ∷ codes "mode" ∷ codes "modifier" ∷ codes "mtime" ∷ codes "name" ∷ codes "size" ∷ []

mode_of-kept : (d : Data) → mode_of (kept entry_keys d) ≡ mode_of d
unfolding mode_of
mode_of-kept d = rw (number_between-kept entry_keys (codes "mode") refl 0 (2 ^ 32 - 1) d)

head_of-kept : (place : ℕ) (d : Data) → head_of place (kept entry_keys d) ≡ head_of place d
unfolding head_of
head_of-kept place d = rw (
  is_object-kept entry_keys d,
  id_field-kept entry_keys (codes "id") refl d,
  mode_of-kept d,
  integer_field-kept entry_keys (codes "mtime") refl d,
  text_field-kept entry_keys (codes "name") refl d,
)

file_details_of-kept : (d : Data) → file_details_of (kept entry_keys d) ≡ file_details_of d
unfolding file_details_of
file_details_of-kept d = rw (text_field-kept entry_keys (codes "modifier") refl d, number_field-kept entry_keys (codes "size") refl d)

entry_from-kept : (head : Head) (d : Data) → entry_from head (kept entry_keys d) ≡ entry_from head d
unfolding entry_from details_of
entry_from-kept head d = rw (file_details_of-kept d)

after_head : (earlier : List Dirent) (d : Data) (head : Result Head BadFs)
    → (head >>= (λ h. holds (not (is_taken (names_of earlier) h.name)) (Twice (length earlier)) >>= (λ new. entry_from h (kept entry_keys d))))
    ≡ (head >>= (λ h. holds (not (is_taken (names_of earlier) h.name)) (Twice (length earlier)) >>= (λ new. entry_from h d)))
after_head earlier d (Ok h) = ap (λ entry. holds (not (is_taken (names_of earlier) h.name)) (Twice (length earlier)) >>= (λ new. entry)) (entry_from-kept h d)
after_head earlier d (Err bad) = refl

-- an entry is read by its six keys
pub entry_of-kept : (earlier : List Dirent) (d : Data) → entry_of earlier (kept entry_keys d) ≡ entry_of earlier d
unfolding entry_of
entry_of-kept earlier d = rw (head_of-kept (length earlier) d) (after_head earlier d (head_of (length earlier) d))

-- an id is no array and no object
pub stored_id_in-kept : (d : Data) → stored_id_in (kept [] d) ≡ stored_id_in d
unfolding stored_id_in id_in
stored_id_in-kept null = refl
stored_id_in-kept (boolean b) = refl
stored_id_in-kept (number n) = refl
stored_id_in-kept (string text) = refl
stored_id_in-kept (array ds) = refl
stored_id_in-kept (object ms) = refl

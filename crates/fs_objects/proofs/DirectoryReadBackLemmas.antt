-- The written value of a directory object is read as its entries. The key lemma is object_in-directory_data.
use Rattle.std.proofs.Common.{◌≡◌, ℕ, ◌-◌, ◌^◌, ◌<◌, ◌||◌, List, [], ◌∷◌, ◌++◌, map, length, All, Bool, true, false, cond, Some, Ok, refl, sym, ap, subst, ◌∙◌, arith, append_assoc, append-nil}
use Rattle.std.proofs.lemmas.Cmp.{nat_list_eq_equiv}
use Rattle.std.proofs.lemmas.List.{map-append}
use Rattle.std.proofs.lemmas.List.Elements.{recursion_from_All}
use Rattle.std.proofs.lemmas.Map.Keys.{IsDistinct-head, IsDistinct-tail}
use Rattle.std.specs.List.{AllByRecursion, IsDistinct}
use Rattle.std.specs.Str.{bytes_eq}
use Rattle.ids.proofs.BasicLemmas.{AllByRecursion-middle}
use Rattle.hex.specs.Hex.{encode_lower}
use Rattle.serde_json.specs.Data.{Data, number, string, array, unsigned}
use Rattle.serde_json.specs.Find.{get, of_integer}
use Rattle.serde_json.specs.View.{items_of}
use Rattle.json_words.specs.Fields.{is_object}
use Rattle.json_words.proofs.FoundLemmas.{number_field-found, number_between-found, integer_field-found, text_field-found, array_field-found, id_field-found}
use Rattle.fs_objects.specs.Directory.{Head, names_of, is_taken, known_mode, mode_of, head_of, details_of, file_details_of, entry_from, entry_of, entries_after, directory_of}
use Rattle.fs_objects.specs.FsKey.{key_text}
use Rattle.fs_objects.specs.FsObject.{object_in}
use Rattle.fs_objects.specs.Mode.{is_file_mode, is_directory_mode}
use Rattle.fs_objects.specs.Proper.{IsProperEntry}
use Rattle.json_words.specs.IdText.{id_data}
use Rattle.fs_objects.specs.Spelling.{file_entry_with, directory_entry_with, entry_data, directory_with}
use Rattle.fs_objects.specs.Typed.{IsTyped}
use Rattle.fs_objects.specs.declared.dirent.Dirent.{Dirent}
use Rattle.fs_objects.specs.declared.fault.FsKey.TheVariants.{KDirents, KId, KMode, KMtime, KName, KModifier, KSize}
use Rattle.fs_objects.specs.declared.fs_object.FsObject.TheVariants.{Dir}
use Rattle.fs_objects.proofs.DirectoryLemmas.{entry_of-new, entries_after-ok}
use Rattle.fs_objects.proofs.FileReadBackLemmas.{object_in-directory}

-- ---- one entry

-- the fields up to the name stand in a value as they are in the entry
record Stands (d : Data) (entry : Dirent) : Type 0 where
  object : is_object d ≡ true
  id : get (key_text KId) d ≡ Some (string (encode_lower entry.id))
  mode : get (key_text KMode) d ≡ Some (number (unsigned entry.mode))
  mtime : get (key_text KMtime) d ≡ Some (number (of_integer entry.mtime))
  name : get (key_text KName) d ≡ Some (string entry.name)

abbrev head_from : Dirent → Head
head_from entry = record { id = entry.id; mode = entry.mode; mtime = entry.mtime; name = entry.name }

mode_of-found : (d : Data) (mode : ℕ) → get (key_text KMode) d ≡ Some (number (unsigned mode)) → mode < 2 ^ 32 → (is_file_mode mode || is_directory_mode mode) ≡ true → mode_of d ≡ Ok mode
unfolding mode_of known_mode
mode_of-found d mode is small known = rw (number_between-found 0 (2 ^ 32 - 1) (key_text KMode) d mode is (omega arith) (omega arith), known)

head_of-stands : (place : ℕ) (d : Data) (entry : Dirent) → Stands d entry → IsTyped entry → IsProperEntry entry → head_of place d ≡ Ok (head_from entry)
unfolding head_of
head_of-stands place d entry stands typed proper =
    rw (
      stands.object,
      id_field-found (key_text KId) d (encode_lower entry.id) entry.id stands.id typed.id,
      mode_of-found d entry.mode stands.mode typed.mode proper.known,
      integer_field-found (key_text KMtime) d entry.mtime stands.mtime typed.mtime,
      text_field-found (key_text KName) d entry.name stands.name,
      typed.name,
    )

details_of-file : (d : Data) (entry : Dirent) → is_file_mode entry.mode ≡ true → get (key_text KModifier) d ≡ Some (string entry.modifier) → get (key_text KSize) d ≡ Some (number (unsigned entry.size))
    → details_of entry.mode d ≡ Ok (record { modifier = entry.modifier; size = entry.size })
unfolding details_of file_details_of
details_of-file d entry file modifier size =
    rw (file, text_field-found (key_text KModifier) d entry.modifier modifier, number_field-found (key_text KSize) d entry.size size)

details_of-directory : (d : Data) (entry : Dirent) → is_file_mode entry.mode ≡ false → IsProperEntry entry → details_of entry.mode d ≡ Ok (record { modifier = entry.modifier; size = entry.size })
unfolding details_of
details_of-directory d entry other proper =
    let plain = proper.plain other in
    rw (other, plain.0, plain.1)

entry_from-stands : (d : Data) (entry : Dirent) → details_of entry.mode d ≡ Ok (record { modifier = entry.modifier; size = entry.size }) → entry_from (head_from entry) d ≡ Ok entry
unfolding entry_from
entry_from-stands d entry details = rw details

entry_of-stands : (earlier : List Dirent) (d : Data) (entry : Dirent) → Stands d entry → IsTyped entry → IsProperEntry entry
    → details_of entry.mode d ≡ Ok (record { modifier = entry.modifier; size = entry.size }) → is_taken (names_of earlier) entry.name ≡ false → entry_of earlier d ≡ Ok entry
entry_of-stands earlier d entry stands typed proper details new =
    entry_of-new earlier d (head_from entry) (head_of-stands (length earlier) d entry stands typed proper) new ∙ entry_from-stands d entry details

entry_of-at : (earlier : List Dirent) (entry : Dirent) (b : Bool) → is_file_mode entry.mode ≡ b → IsTyped entry → IsProperEntry entry → is_taken (names_of earlier) entry.name ≡ false
    → entry_of earlier (cond b (file_entry_with (id_data entry.id) entry.mode entry.modifier entry.mtime entry.name entry.size) (directory_entry_with (id_data entry.id) entry.mode entry.mtime entry.name)) ≡ Ok entry
unfolding file_entry_with directory_entry_with
entry_of-at earlier entry true is typed proper new =
    let d = file_entry_with (id_data entry.id) entry.mode entry.modifier entry.mtime entry.name entry.size in
    entry_of-stands earlier d entry (record { object = refl; id = refl; mode = refl; mtime = refl; name = refl }) typed proper (details_of-file d entry is refl refl) new
entry_of-at earlier entry false is typed proper new =
    let d = directory_entry_with (id_data entry.id) entry.mode entry.mtime entry.name in
    entry_of-stands earlier d entry (record { object = refl; id = refl; mode = refl; mtime = refl; name = refl }) typed proper (details_of-directory d entry is proper) new

-- ---- all entries

not_before : (names : List (List ℕ)) (name : List ℕ) (later : List (List ℕ)) → IsDistinct bytes_eq (names ++ name ∷ later) → is_taken names name ≡ false
not_before [] name later distinct = refl
not_before (n ∷ names) name later distinct =
    let apart : bytes_eq name n ≡ false = nat_list_eq_equiv.symm name n ∙ AllByRecursion-middle (λ y. bytes_eq n y ≡ false) names name later (IsDistinct-head bytes_eq n (names ++ name ∷ later) distinct) in
    rw apart (not_before names name later (IsDistinct-tail bytes_eq n (names ++ name ∷ later) distinct))

entries_read : (earlier entries : List Dirent) → AllByRecursion IsTyped entries → AllByRecursion IsProperEntry entries → IsDistinct bytes_eq (names_of (earlier ++ entries)) → entries_after earlier (map entry_data entries) ≡ Ok (earlier ++ entries)
entries_read earlier [] typed proper distinct = ap Ok (sym (append-nil earlier))
entries_read earlier (entry ∷ entries) typed proper distinct =
    let P : List (List ℕ) → Type 0 = λ names. IsDistinct bytes_eq names in
    let Q : List Dirent → Type 0 = λ all. IsDistinct bytes_eq (names_of all) in
    let apart = subst P (map-append (λ (e : Dirent). e.name) earlier (entry ∷ entries)) distinct in
    let new = not_before (names_of earlier) entry.name (names_of entries) apart in
    let reads = entry_of-at earlier entry (is_file_mode entry.mode) refl typed.0 proper.0 new in
    entries_after-ok earlier (entry_data entry) (map entry_data entries) entry reads
    ∙ entries_read (earlier ++ entry ∷ []) entries typed.1 proper.1 (subst Q (sym (append_assoc earlier (entry ∷ []) entries)) distinct)
    ∙ ap Ok (append_assoc earlier (entry ∷ []) entries)

directory_of-found : (d : Data) (items : List Data) (entries : List Dirent) → get (key_text KDirents) d ≡ Some (array (items_of items)) → entries_after [] items ≡ Ok entries → directory_of d ≡ Ok entries
unfolding directory_of
directory_of-found d items entries is reads = rw (array_field-found (key_text KDirents) d items is, reads)

pub object_in-directory_data : (entries : List Dirent) → All IsTyped entries → All IsProperEntry entries → IsDistinct bytes_eq (names_of entries) → object_in (directory_with (map entry_data entries)) ≡ Ok (Dir entries)
unfolding directory_with
object_in-directory_data entries typed proper distinct =
    let d = directory_with (map entry_data entries) in
    let reads = entries_read [] entries (recursion_from_All IsTyped entries typed) (recursion_from_All IsProperEntry entries proper) distinct in
    object_in-directory d entries refl refl (directory_of-found d (map entry_data entries) entries refl reads)

pub is_object-directory_with : (entries : List Data) → is_object (directory_with entries) ≡ true
unfolding directory_with
is_object-directory_with entries = refl

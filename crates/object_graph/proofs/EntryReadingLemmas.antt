-- What each entry of a directory object has that is read. The key lemmas are entry_read, entries_read and good_names.
use Rattle.std.proofs.Common.{◌≡◌, ℕ, ◌==◌, Bool, true, false, not, if◌then◌else◌, is_none, List, [], ◌∷◌, ◌++◌, length, refl, subst, Option, None, Some, Result, Ok, Err}
use Rattle.std.specs.List.{AllByRecursion}
use Rattle.serde_json.specs.Data.{Data}
use Rattle.json_words.specs.Check.{holds, ok_or, result_map}
use Rattle.json_words.proofs.CheckLemmas.{went_on}
pub use Rattle.json_words.proofs.CheckLemmas.{WentOn}
use Rattle.json_words.specs.Fields.{is_object, array_field, integer_field, text_field}
use Rattle.json_words.specs.IdText.{id_field}
use Rattle.json_words.specs.JsonText.{json_of}
use Rattle.tree_model.specs.Name.{IsName, name_fault}
use Rattle.tree_model.specs.declared.name.BadName.{BadName}
use Rattle.fs_objects.specs.Directory.{Head, mode_of, head_of, details_of, entry_from, entry_of, entries_after, directory_of, names_of, is_taken}
use Rattle.fs_objects.specs.FsKey.{key_text, at_key}
use Rattle.fs_objects.specs.File.{file_of}
use Rattle.fs_objects.specs.FsObject.{fs_of, object_in, type_of, right_version}
use Rattle.fs_objects.specs.declared.dirent.Dirent.{Dirent}
use Rattle.fs_objects.specs.declared.fault.BadFs.{BadFs}
use Rattle.fs_objects.specs.declared.fault.BadFs.TheVariants.{NotJson, WrongType, BadName as bad_name, Twice}
use Rattle.fs_objects.specs.declared.fault.FsKey.TheVariants.{KDirents, KId, KMtime, KName}
use Rattle.fs_objects.specs.declared.file_object.FileObject.{FileObject}
use Rattle.fs_objects.specs.declared.fs_object.FsObject.TheVariants.{File, Dir}

-- the mode is what the value has, and the name is one
abbrev pub IsEntryRead : Data → (mode : ℕ) → (name : List ℕ) → Type 0
IsEntryRead d mode name = (mode_of d ≡ Ok mode) × (name_fault name ≡ None)

passed : {E : Type 0} (b : Bool) (fault : E) (y : Unit {0}) → holds b fault ≡ Ok y → b ≡ true
passed true fault y is = refl
passed false fault y is = cc

no_fault : (o : Option BadName) → is_none o ≡ true → o ≡ None
no_fault None is = refl
no_fault (Some bad) is = cc

head_read : (place : ℕ) (d : Data) (head : Head) → head_of place d ≡ Ok head → IsEntryRead d head.mode head.name
unfolding head_of
head_read place d head is =
    let object = went_on (holds (is_object d) (WrongType KDirents)) _ head is in
    let id = went_on (at_key KId (id_field (key_text KId) d)) _ head object.goes in
    let mode = went_on (mode_of d) _ head id.goes in
    let mtime = went_on (at_key KMtime (integer_field (key_text KMtime) d)) _ head mode.goes in
    let name = went_on (at_key KName (text_field (key_text KName) d)) _ head mtime.goes in
    let good = went_on (holds (is_none (name_fault name.value)) (bad_name place)) _ head name.goes in
    let clear : name_fault name.value ≡ None = no_fault (name_fault name.value) (passed (is_none (name_fault name.value)) (bad_name place) good.value good.gave) in
    same (record { id = id.value; mode = mode.value; mtime = mtime.value; name = name.value }) head good.goes (mode.gave, clear)
  where
    same : (h g : Head) → (let r : Result Head BadFs = Ok h in r) ≡ Ok g → IsEntryRead d h.mode h.name → IsEntryRead d g.mode g.name
    same h g is read = let one : h ≡ g = cc in subst (λ (k : Head). IsEntryRead d k.mode k.name) one read

from_head : (head : Head) (d : Data) (e : Dirent) → entry_from head d ≡ Ok e → IsEntryRead d head.mode head.name → IsEntryRead d e.mode e.name
unfolding entry_from
from_head head d e is read =
    let details = went_on (details_of head.mode d) _ e is in
    let x : Dirent = record { name = head.name; id = head.id; mode = head.mode; mtime = head.mtime; modifier = details.value.modifier; size = details.value.size } in
    same x e details.goes read
  where
    same : (x e : Dirent) → (let r : Result Dirent BadFs = Ok x in r) ≡ Ok e → IsEntryRead d x.mode x.name → IsEntryRead d e.mode e.name
    same x e is read = let one : x ≡ e = cc in subst (λ (k : Dirent). IsEntryRead d k.mode k.name) one read

pub entry_read : (earlier : List Dirent) (d : Data) (e : Dirent) → entry_of earlier d ≡ Ok e → IsEntryRead d e.mode e.name
unfolding entry_of
entry_read earlier d e is =
    let head = went_on (head_of (length earlier) d) _ e is in
    let new = went_on (holds (not (is_taken (names_of earlier) head.value.name)) (Twice (length earlier))) _ e head.goes in
    from_head head.value d e new.goes (head_read (length earlier) d head.value head.gave)

module _ (P : Dirent → Type 0) (each : (earlier : List Dirent) (d : Data) (e : Dirent) → entry_of earlier d ≡ Ok e → P e) where
  all_push : (entries : List Dirent) (e : Dirent) → AllByRecursion P entries → P e → AllByRecursion P (entries ++ e ∷ [])
  all_push [] e all here = (here, tt)
  all_push (x ∷ entries) e all here = (all.0, all_push entries e all.1 here)

  all_after : (earlier : List Dirent) (ds : List Data) (entries : List Dirent) → AllByRecursion P earlier → entries_after earlier ds ≡ Ok entries → AllByRecursion P entries
  all_after earlier [] entries all is =
      let one : earlier ≡ entries = cc in
      subst (AllByRecursion P) one all
  all_after earlier (d ∷ ds) entries all is =
      let here = went_on (entry_of earlier d) (λ e. entries_after (earlier ++ e ∷ []) ds) entries is in
      all_after (earlier ++ here.value ∷ []) ds entries (all_push earlier here.value all (each earlier d here.value here.gave)) here.goes

  of_directory : (d : Data) (entries : List Dirent) → directory_of d ≡ Ok entries → AllByRecursion P entries
  unfolding directory_of
  of_directory d entries is =
      let items = went_on (at_key KDirents (array_field (key_text KDirents) d)) _ entries is in
      all_after [] items.value entries tt items.goes

  of_object : (d : Data) (entries : List Dirent) → object_in d ≡ Ok (Dir entries) → AllByRecursion P entries
  unfolding object_in
  of_object d entries is =
      let number = went_on (type_of d) _ (Dir entries) is in
      let right = went_on (right_version d) _ (Dir entries) number.goes in
      by (number.value == 1) right.goes
    where
      file : (r : Result FileObject BadFs) → result_map File r ≡ Ok (Dir entries) → AllByRecursion P entries
      file (Ok x) is = cc
      file (Err bad) is = cc

      directory : (r : Result (List Dirent) BadFs) → result_map Dir r ≡ Ok (Dir entries) → r ≡ Ok entries
      directory (Ok x) is = cc
      directory (Err bad) is = cc

      by : (b : Bool) → (if b then result_map File (file_of d) else result_map Dir (directory_of d)) ≡ Ok (Dir entries) → AllByRecursion P entries
      by true is = file (file_of d) is
      by false is = of_directory d entries (directory (directory_of d) is)

  -- what each entry has as it is read, all of a directory that is read have
  pub entries_read : (bytes : List ℕ) (entries : List Dirent) → fs_of bytes ≡ Ok (Dir entries) → AllByRecursion P entries
  unfolding fs_of
  entries_read bytes entries is =
      let json = went_on (ok_or (json_of bytes) NotJson) _ (Dir entries) is in
      let object = went_on (holds (is_object json.value) NotJson) _ (Dir entries) json.goes in
      of_object json.value entries object.goes

-- the names of what is read are good
pub good_names : (bytes : List ℕ) (entries : List Dirent) → fs_of bytes ≡ Ok (Dir entries) → AllByRecursion (λ (e : Dirent). IsName e.name) entries
good_names = entries_read (λ (e : Dirent). IsName e.name) (λ earlier d e is. record { faultless = (entry_read earlier d e is).1 })

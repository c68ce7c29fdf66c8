-- What is written has no float, and nests three levels at most.
use Rattle.std.proofs.Common.{◌≡◌, ◌≤◌, List, [], ◌∷◌, map, Bool, true, false, cond, refl, arith}
use Rattle.json_words.proofs.FoundLemmas.{is_float-of_integer}
use Rattle.serde_json.specs.Data.{Data, depth, items_depth}
use Rattle.serde_json.specs.View.{items_of}
use Rattle.serde_json.specs.Written.{has_float, items_have_float}
use Rattle.fs_objects.specs.Mode.{is_file_mode}
use Rattle.fs_objects.specs.Spelling.{file_with, file_data, file_entry_with, directory_entry_with, entry_data, directory_with}
use Rattle.fs_objects.specs.declared.dirent.Dirent.{Dirent}
use Rattle.fs_objects.specs.declared.file_object.FileObject.{FileObject}
use Rattle.json_words.proofs.WrittenLemmas.{no_float_ids, flat_ids}

pub has_float-file_data : (file : FileObject) → has_float (file_data file) ≡ false
unfolding file_with
has_float-file_data file = rw (no_float_ids file.blocks)

pub depth-file_data : (file : FileObject) → depth (file_data file) ≤ 127
unfolding file_with
depth-file_data file = rw (flat_ids file.blocks) (omega arith)

entry_at : (P : Data → Type 0) (b : Bool) (file directory : Data) → P file → P directory → P (cond b file directory)
entry_at P true file directory f d = f
entry_at P false file directory f d = d

has_float-entry_data : (entry : Dirent) → has_float (entry_data entry) ≡ false
unfolding file_entry_with directory_entry_with
has_float-entry_data entry =
    let P : Data → Type 0 = λ d. has_float d ≡ false in
    entry_at P (is_file_mode entry.mode) _ _ (rw (is_float-of_integer entry.mtime)) (rw (is_float-of_integer entry.mtime))

depth-entry_data : (entry : Dirent) → depth (entry_data entry) ≡ 1
unfolding file_entry_with directory_entry_with
depth-entry_data entry =
    let P : Data → Type 0 = λ d. depth d ≡ 1 in
    entry_at P (is_file_mode entry.mode) _ _ refl refl

no_float_entries : (entries : List Dirent) → items_have_float (items_of (map entry_data entries)) ≡ false
no_float_entries [] = refl
no_float_entries (entry ∷ entries) = rw has_float-entry_data (no_float_entries entries)

shallow_entries : (entries : List Dirent) → items_depth (items_of (map entry_data entries)) ≤ 1
shallow_entries [] = omega arith
shallow_entries (entry ∷ entries) = let e = depth-entry_data entry in let rest = shallow_entries entries in omega arith

pub has_float-directory_with : (entries : List Dirent) → has_float (directory_with (map entry_data entries)) ≡ false
unfolding directory_with
has_float-directory_with entries = rw (no_float_entries entries)

pub depth-directory_with : (entries : List Dirent) → depth (directory_with (map entry_data entries)) ≤ 127
unfolding directory_with
depth-directory_with entries = let rest = shallow_entries entries in omega arith

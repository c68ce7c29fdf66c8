-- The written value of a file object is read as the object. The key lemma is object_in-file_data.
use Rattle.std.proofs.Common.{◌≡◌, ◌≢◌, ℕ, List, [], ◌∷◌, map, All, true, Some, Ok, refl}
use Rattle.std.proofs.lemmas.List.Elements.{recursion_from_All}
use Rattle.std.specs.List.{AllByRecursion}
use Rattle.hex.specs.Hex.{encode_lower}
use Rattle.ids.specs.ObjectId.{nil}
use Rattle.serde_json.specs.Data.{Data, number, array, unsigned}
use Rattle.serde_json.specs.Find.{get}
use Rattle.serde_json.specs.View.{items_of}
use Rattle.json_words.specs.Fields.{is_object}
use Rattle.json_words.specs.JsonText.{json_of}
use Rattle.json_words.specs.Check.{each}
use Rattle.json_words.proofs.FoundLemmas.{number_field-found, array_field-found, stored_id_in-found}
use Rattle.fs_objects.specs.File.{block_of, file_of}
use Rattle.fs_objects.specs.FsKey.{key_text}
use Rattle.fs_objects.specs.FsObject.{type_of, right_version, object_in, fs_of}
use Rattle.fs_objects.specs.Directory.{directory_of}
use Rattle.json_words.specs.IdText.{id_data, IsId}
use Rattle.fs_objects.specs.Spelling.{file_with, file_data}
use Rattle.fs_objects.specs.declared.dirent.Dirent.{Dirent}
use Rattle.fs_objects.specs.declared.fault.FsKey.TheVariants.{KType, KVersion, KBlockIds, KSize}
use Rattle.fs_objects.specs.declared.file_object.FileObject.{FileObject}
use Rattle.fs_objects.specs.declared.fs_object.FsObject.TheVariants.{File, Dir}

-- ---- the head of an object

-- bytes with a known value are read as it
pub fs_of-known : (bytes : List ℕ) (d : Data) → json_of bytes ≡ Some d → is_object d ≡ true → fs_of bytes ≡ object_in d
unfolding fs_of
fs_of-known bytes d is object = rw (is, object)

pub type_of-file : (d : Data) → get (key_text KType) d ≡ Some (number (unsigned 1)) → type_of d ≡ Ok 1
unfolding type_of
type_of-file d is = rw (number_field-found (key_text KType) d 1 is)

pub type_of-directory : (d : Data) → get (key_text KType) d ≡ Some (number (unsigned 3)) → type_of d ≡ Ok 3
unfolding type_of
type_of-directory d is = rw (number_field-found (key_text KType) d 3 is)

pub right_version-found : (d : Data) → get (key_text KVersion) d ≡ Some (number (unsigned 1)) → right_version d ≡ Ok tt
unfolding right_version
right_version-found d is = rw (number_field-found (key_text KVersion) d 1 is)

pub object_in-file : (d : Data) (file : FileObject) → get (key_text KType) d ≡ Some (number (unsigned 1)) → get (key_text KVersion) d ≡ Some (number (unsigned 1)) → file_of d ≡ Ok file → object_in d ≡ Ok (File file)
unfolding object_in
object_in-file d file kind version reads = rw (type_of-file d kind, right_version-found d version, reads)

pub object_in-directory : (d : Data) (entries : List Dirent) → get (key_text KType) d ≡ Some (number (unsigned 3)) → get (key_text KVersion) d ≡ Some (number (unsigned 1)) → directory_of d ≡ Ok entries → object_in d ≡ Ok (Dir entries)
unfolding object_in
object_in-directory d entries kind version reads = rw (type_of-directory d kind, right_version-found d version, reads)

-- ---- a file

block_of-id : (id : List ℕ) → IsId id → id ≢ nil → block_of (id_data id) ≡ Ok id
block_of-id id reads other = rw (stored_id_in-found (encode_lower id) id reads other)

blocks_read : (ids : List (List ℕ)) → AllByRecursion IsId ids → AllByRecursion (λ id. id ≢ nil) ids → each block_of (map id_data ids) ≡ Ok ids
blocks_read [] typed other = refl
blocks_read (id ∷ ids) typed other = rw (block_of-id id typed.0 other.0, blocks_read ids typed.1 other.1)

file_of-found : (d : Data) (items : List Data) (blocks : List (List ℕ)) (size : ℕ) → get (key_text KBlockIds) d ≡ Some (array (items_of items)) → get (key_text KSize) d ≡ Some (number (unsigned size))
    → each block_of items ≡ Ok blocks → file_of d ≡ Ok (record { blocks = blocks; size = size })
unfolding file_of
file_of-found d items blocks size array_is size_is reads =
    rw (array_field-found (key_text KBlockIds) d items array_is, reads, number_field-found (key_text KSize) d size size_is)

pub object_in-file_data : (file : FileObject) → All IsId file.blocks → All (λ id. id ≢ nil) file.blocks → object_in (file_data file) ≡ Ok (File file)
unfolding file_with
object_in-file_data file typed other =
    let reads = blocks_read file.blocks (recursion_from_All IsId file.blocks typed) (recursion_from_All (λ id. id ≢ nil) file.blocks other) in
    object_in-file (file_data file) file refl refl (file_of-found (file_data file) (map id_data file.blocks) file.blocks file.size refl refl reads)

pub is_object-file_data : (file : FileObject) → is_object (file_data file) ≡ true
unfolding file_with
is_object-file_data file = refl

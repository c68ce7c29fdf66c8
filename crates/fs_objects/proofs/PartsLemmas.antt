-- The parts of an object while its members are read. Read IsPartsOf-none, the lemmas IsMember-.., and object_from-is.
use Rattle.std.proofs.Common.{◌≡◌, ℕ, true, false, List, [], Option, Some, Result, Ok, Err, is_eq, nat_cmp, Ordering, Less, Equal, Greater, refl, sym, ap, ◌∙◌, subst}
use Rattle.std.specs.Cmp.Lexicographic.{slice_cmp}
use Rattle.std.specs.Ordering.{match_ordering}
use Rattle.std.specs.Str.{bytes_eq}
use Rattle.std.proofs.lemmas.Bool.{false≢true}
use Rattle.std.proofs.lemmas.Map.Text.{is_eq-slice_cmp}
use Rattle.std.proofs.lemmas.Slice.Eq.{bytes_eq-Decides}
use Rattle.ids.proofs.BasicLemmas.{same_from_slice_cmp, same_from_bytes_eq}
use Rattle.json.specs.Token.{Token}
use Rattle.serde_json.specs.Data.{Data, object, Members, no_members, member, put}
use Rattle.serde_json.specs.Find.{get_member}
use Rattle.json_words.specs.Check.{◌>>=◌, each, result_map}
use Rattle.json_words.specs.Fields.{array_field, number_field}
use Rattle.json_words.specs.declared.fields.FieldFault.{FieldFault}
use Rattle.fs_objects.specs.Directory.{directory_of, entries_after}
use Rattle.fs_objects.specs.File.{block_of, file_of}
use Rattle.json_tokens.specs.Front.{FrontIs}
use Rattle.fs_objects.specs.ObjectReading.{array_in, number_in}
use Rattle.fs_objects.specs.FsKey.{key_text, at_key}
use Rattle.fs_objects.specs.FsObject.{object_in, right_version, type_of}
use Rattle.fs_objects.specs.Parts.{IsMember, IsPartsOf, blocks_told, directory_from, entries_told, file_from, kind_from, listed, member_depth, object_from, version_from}
use Rattle.fs_objects.specs.declared.directory_reading.EntriesRead.{EntriesRead}
use Rattle.fs_objects.specs.declared.fault.BadFs.{BadFs}
use Rattle.fs_objects.specs.declared.fault.FsKey.{FsKey}
use Rattle.fs_objects.specs.declared.fault.FsKey.TheVariants.{KType, KVersion, KBlockIds, KSize, KDirents}
use Rattle.fs_objects.specs.declared.file_object.FileObject.{FileObject}
use Rattle.fs_objects.specs.declared.file_reading.BlocksRead.{BlocksRead}
use Rattle.fs_objects.specs.declared.parts.Parts.{Parts}

-- ---- what is found of a member that was put

equal_at : (o : Ordering) (k : List ℕ) → slice_cmp nat_cmp k k ≡ o → is_eq o ≡ true → o ≡ Equal
equal_at Less k is eq = absurd (false≢true eq)
equal_at Equal k is eq = refl
equal_at Greater k is eq = absurd (false≢true eq)

itself : (k : List ℕ) → slice_cmp nat_cmp k k ≡ Equal
itself k = equal_at (slice_cmp nat_cmp k k) k refl (is_eq-slice_cmp k k ∙ (bytes_eq-Decides k k).1 refl)

put-same_at : (o : Ordering) (k l : List ℕ) (d e : Data) (ms : Members) → slice_cmp nat_cmp k l ≡ o → get_member k (put k d ms) ≡ Some d
    → get_member k (match_ordering o (member k d (member l e ms)) (member l d ms) (member l e (put k d ms))) ≡ Some d
put-same_at Less k l d e ms is later = rw (itself k)
put-same_at Equal k l d e ms is later = rw is
put-same_at Greater k l d e ms is later = rw is later

pub get_member-put : (k : List ℕ) (d : Data) (ms : Members) → get_member k (put k d ms) ≡ Some d
get_member-put k d no_members = rw (itself k)
get_member-put k d (member l e ms) = put-same_at _ k l d e ms refl (get_member-put k d ms)

skips_at : (o : Ordering) (q k : List ℕ) (found here : Option Data) → slice_cmp nat_cmp q k ≡ o → (q ≡ k → ⊥) → match_ordering o found here found ≡ found
skips_at Less q k found here is other = refl
skips_at Equal q k found here is other = absurd (other (same_from_slice_cmp q k is))
skips_at Greater q k found here is other = refl

skips : (q k : List ℕ) (d : Data) (ms : Members) → (q ≡ k → ⊥) → get_member q (member k d ms) ≡ get_member q ms
skips q k d ms other = skips_at (slice_cmp nat_cmp q k) q k (get_member q ms) (Some d) refl other

put-other_at : (o : Ordering) (q k l : List ℕ) (d e : Data) (ms : Members) → slice_cmp nat_cmp k l ≡ o → (q ≡ k → ⊥) → get_member q (put k d ms) ≡ get_member q ms
    → get_member q (match_ordering o (member k d (member l e ms)) (member l d ms) (member l e (put k d ms))) ≡ get_member q (member l e ms)
put-other_at Less q k l d e ms is other later = skips q k d (member l e ms) other
put-other_at Equal q k l d e ms is other later =
    let apart : q ≡ l → ⊥ = λ same. other (same ∙ sym (same_from_slice_cmp k l is)) in
    skips q l d ms apart ∙ sym (skips q l e ms apart)
put-other_at Greater q k l d e ms is other later = ap (λ r. match_ordering (slice_cmp nat_cmp q l) r (Some e) r) later

pub get_member-put_other : (q k : List ℕ) (d : Data) (ms : Members) → (q ≡ k → ⊥) → get_member q (put k d ms) ≡ get_member q ms
get_member-put_other q k d no_members other = skips q k d no_members other
get_member-put_other q k d (member l e ms) other = put-other_at _ q k l d e ms refl other (get_member-put_other q k d ms other)

-- ---- what a field is read as then

number-put : (k : List ℕ) (d : Data) (ms : Members) → number_in d ≡ number_field k (object (put k d ms))
unfolding number_field
number-put k d ms = rw (get_member-put k d ms)

number-other : (q k : List ℕ) (d : Data) (ms : Members) → (q ≡ k → ⊥) → number_field q (object ms) ≡ number_field q (object (put k d ms))
unfolding number_field
number-other q k d ms other = rw (get_member-put_other q k d ms other)

array-put : (k : List ℕ) (d : Data) (ms : Members) → array_in d ≡ array_field k (object (put k d ms))
unfolding array_field
array-put k d ms = rw (get_member-put k d ms)

array-other : (q k : List ℕ) (d : Data) (ms : Members) → (q ≡ k → ⊥) → array_field q (object ms) ≡ array_field q (object (put k d ms))
unfolding array_field
array-other q k d ms other = rw (get_member-put_other q k d ms other)

-- texts that differ, by the test
pub apart : (q k : List ℕ) → bytes_eq q k ≡ false → q ≡ k → ⊥
apart q k differ same = false≢true (sym differ ∙ (bytes_eq-Decides q k).1 same)

module _ (found : Members) (parts : Parts) (d : Data) (is : IsPartsOf found parts) where
  with_kind : (slot : Result ℕ FieldFault) → slot ≡ number_in d → IsPartsOf (put (key_text KType) d found) (record parts { kind = slot })
  with_kind slot read = let k = key_text KType in record {
    kind = read ∙ number-put k d found;
    version = is.version ∙ number-other (key_text KVersion) k d found (apart (key_text KVersion) k refl);
    size = is.size ∙ number-other (key_text KSize) k d found (apart (key_text KSize) k refl);
    dirents = is.dirents ∙ ap (result_map (entries_after [])) (array-other (key_text KDirents) k d found (apart (key_text KDirents) k refl));
    block_ids = is.block_ids ∙ ap (result_map (each block_of)) (array-other (key_text KBlockIds) k d found (apart (key_text KBlockIds) k refl));
  }

  with_version : (slot : Result ℕ FieldFault) → slot ≡ number_in d → IsPartsOf (put (key_text KVersion) d found) (record parts { version = slot })
  with_version slot read = let k = key_text KVersion in record {
    kind = is.kind ∙ number-other (key_text KType) k d found (apart (key_text KType) k refl);
    version = read ∙ number-put k d found;
    size = is.size ∙ number-other (key_text KSize) k d found (apart (key_text KSize) k refl);
    dirents = is.dirents ∙ ap (result_map (entries_after [])) (array-other (key_text KDirents) k d found (apart (key_text KDirents) k refl));
    block_ids = is.block_ids ∙ ap (result_map (each block_of)) (array-other (key_text KBlockIds) k d found (apart (key_text KBlockIds) k refl));
  }

  with_size : (slot : Result ℕ FieldFault) → slot ≡ number_in d → IsPartsOf (put (key_text KSize) d found) (record parts { size = slot })
  with_size slot read = let k = key_text KSize in record {
    kind = is.kind ∙ number-other (key_text KType) k d found (apart (key_text KType) k refl);
    version = is.version ∙ number-other (key_text KVersion) k d found (apart (key_text KVersion) k refl);
    size = read ∙ number-put k d found;
    dirents = is.dirents ∙ ap (result_map (entries_after [])) (array-other (key_text KDirents) k d found (apart (key_text KDirents) k refl));
    block_ids = is.block_ids ∙ ap (result_map (each block_of)) (array-other (key_text KBlockIds) k d found (apart (key_text KBlockIds) k refl));
  }

  with_dirents : (slot : Result EntriesRead FieldFault) → result_map entries_told slot ≡ result_map (entries_after []) (array_in d)
      → IsPartsOf (put (key_text KDirents) d found) (record parts { dirents = slot })
  with_dirents slot read = let k = key_text KDirents in record {
    kind = is.kind ∙ number-other (key_text KType) k d found (apart (key_text KType) k refl);
    version = is.version ∙ number-other (key_text KVersion) k d found (apart (key_text KVersion) k refl);
    size = is.size ∙ number-other (key_text KSize) k d found (apart (key_text KSize) k refl);
    dirents = read ∙ ap (result_map (entries_after [])) (array-put k d found);
    block_ids = is.block_ids ∙ ap (result_map (each block_of)) (array-other (key_text KBlockIds) k d found (apart (key_text KBlockIds) k refl));
  }

  with_block_ids : (slot : Result BlocksRead FieldFault) → result_map blocks_told slot ≡ result_map (each block_of) (array_in d)
      → IsPartsOf (put (key_text KBlockIds) d found) (record parts { block_ids = slot })
  with_block_ids slot read = let k = key_text KBlockIds in record {
    kind = is.kind ∙ number-other (key_text KType) k d found (apart (key_text KType) k refl);
    version = is.version ∙ number-other (key_text KVersion) k d found (apart (key_text KVersion) k refl);
    size = is.size ∙ number-other (key_text KSize) k d found (apart (key_text KSize) k refl);
    dirents = is.dirents ∙ ap (result_map (entries_after [])) (array-other (key_text KDirents) k d found (apart (key_text KDirents) k refl));
    block_ids = read ∙ ap (result_map (each block_of)) (array-put k d found);
  }

  with_more : (name : List ℕ) → (key_text KType ≡ name → ⊥) → (key_text KVersion ≡ name → ⊥) → (key_text KSize ≡ name → ⊥) → (key_text KDirents ≡ name → ⊥) → (key_text KBlockIds ≡ name → ⊥)
      → IsPartsOf (put name d found) parts
  with_more name kind version size dirents block_ids = record {
    kind = is.kind ∙ number-other (key_text KType) name d found kind;
    version = is.version ∙ number-other (key_text KVersion) name d found version;
    size = is.size ∙ number-other (key_text KSize) name d found size;
    dirents = is.dirents ∙ ap (result_map (entries_after [])) (array-other (key_text KDirents) name d found dirents);
    block_ids = is.block_ids ∙ ap (result_map (each block_of)) (array-other (key_text KBlockIds) name d found block_ids);
  }

-- ---- a member is read into its part

module _ (name : List ℕ) (old new : List Token) (before : Parts) where
  pub IsMember-kind : (slot : Result ℕ FieldFault) → bytes_eq name (key_text KType) ≡ true → (d : Data) × FrontIs member_depth old d new × (slot ≡ number_in d)
      → IsMember name old new before (record before { kind = slot })
  IsMember-kind slot named read = record {
    d = read.0;
    front = read.1;
    parts = λ found is. subst (λ key. IsPartsOf (put key read.0 found) (record before { kind = slot })) (sym (same_from_bytes_eq name (key_text KType) named)) (with_kind found before read.0 is slot read.2);
  }

  pub IsMember-version : (slot : Result ℕ FieldFault) → bytes_eq name (key_text KVersion) ≡ true → (d : Data) × FrontIs member_depth old d new × (slot ≡ number_in d)
      → IsMember name old new before (record before { version = slot })
  IsMember-version slot named read = record {
    d = read.0;
    front = read.1;
    parts = λ found is. subst (λ key. IsPartsOf (put key read.0 found) (record before { version = slot })) (sym (same_from_bytes_eq name (key_text KVersion) named)) (with_version found before read.0 is slot read.2);
  }

  pub IsMember-size : (slot : Result ℕ FieldFault) → bytes_eq name (key_text KSize) ≡ true → (d : Data) × FrontIs member_depth old d new × (slot ≡ number_in d)
      → IsMember name old new before (record before { size = slot })
  IsMember-size slot named read = record {
    d = read.0;
    front = read.1;
    parts = λ found is. subst (λ key. IsPartsOf (put key read.0 found) (record before { size = slot })) (sym (same_from_bytes_eq name (key_text KSize) named)) (with_size found before read.0 is slot read.2);
  }

  pub IsMember-dirents : (slot : Result EntriesRead FieldFault) → bytes_eq name (key_text KDirents) ≡ true
      → (d : Data) × FrontIs member_depth old d new × (result_map entries_told slot ≡ result_map (entries_after []) (array_in d))
      → IsMember name old new before (record before { dirents = slot })
  IsMember-dirents slot named read = record {
    d = read.0;
    front = read.1;
    parts = λ found is. subst (λ key. IsPartsOf (put key read.0 found) (record before { dirents = slot })) (sym (same_from_bytes_eq name (key_text KDirents) named)) (with_dirents found before read.0 is slot read.2);
  }

  pub IsMember-block_ids : (slot : Result BlocksRead FieldFault) → bytes_eq name (key_text KBlockIds) ≡ true
      → (d : Data) × FrontIs member_depth old d new × (result_map blocks_told slot ≡ result_map (each block_of) (array_in d))
      → IsMember name old new before (record before { block_ids = slot })
  IsMember-block_ids slot named read = record {
    d = read.0;
    front = read.1;
    parts = λ found is. subst (λ key. IsPartsOf (put key read.0 found) (record before { block_ids = slot })) (sym (same_from_bytes_eq name (key_text KBlockIds) named)) (with_block_ids found before read.0 is slot read.2);
  }

  -- a member of another name leaves the parts as they are
  pub IsMember-more : bytes_eq name (key_text KType) ≡ false → bytes_eq name (key_text KVersion) ≡ false → bytes_eq name (key_text KSize) ≡ false
      → bytes_eq name (key_text KDirents) ≡ false → bytes_eq name (key_text KBlockIds) ≡ false → (d : Data) × FrontIs member_depth old d new
      → IsMember name old new before before
  IsMember-more kind version size dirents block_ids read = record {
    d = read.0;
    front = read.1;
    parts = λ found is. with_more found before read.0 is name (λ e. apart name (key_text KType) kind (sym e)) (λ e. apart name (key_text KVersion) version (sym e)) (λ e. apart name (key_text KSize) size (sym e))
        (λ e. apart name (key_text KDirents) dirents (sym e)) (λ e. apart name (key_text KBlockIds) block_ids (sym e));
  }

-- ---- the object that the parts make

listed-is : {A : Type 0} (key : FsKey) (check : List Data → Result A BadFs) (r : Result (List Data) FieldFault) → listed key (result_map check r) ≡ (at_key key r >>= check)
listed-is key check (Ok items) = refl
listed-is key check (Err fault) = refl

then_more : {A B C E : Type 0} (r : Result A E) (f : A → Result B E) (g : B → Result C E) → ((r >>= f) >>= g) ≡ (r >>= (λ a. f a >>= g))
then_more (Ok a) f g = refl
then_more (Err fault) f g = refl

module _ (found : Members) (parts : Parts) (is : IsPartsOf found parts) where
  kind_from-is : kind_from parts.kind ≡ type_of (object found)
  unfolding kind_from type_of
  kind_from-is = rw is.kind

  version_from-is : version_from parts.version ≡ right_version (object found)
  unfolding version_from right_version
  version_from-is = rw is.version

  directory_from-is : directory_from parts.dirents ≡ directory_of (object found)
  unfolding directory_from directory_of
  directory_from-is = ap (listed KDirents) is.dirents ∙ listed-is KDirents (entries_after []) (array_field (key_text KDirents) (object found))

  file_from-is : file_from parts.block_ids parts.size ≡ file_of (object found)
  unfolding file_from file_of
  file_from-is =
      let items = array_field (key_text KBlockIds) (object found) in
      let rest : List (List ℕ) → Result FileObject BadFs = λ blocks. at_key KSize (number_field (key_text KSize) (object found)) >>= (λ size. Ok (record { blocks = blocks; size = size })) in
      ap (λ number. listed KBlockIds (result_map blocks_told parts.block_ids) >>= (λ blocks. at_key KSize number >>= (λ size. Ok (record { blocks = blocks; size = size })))) is.size
      ∙ ap (λ list. listed KBlockIds list >>= rest) is.block_ids
      ∙ ap (λ list. list >>= rest) (listed-is KBlockIds (each block_of) items)
      ∙ then_more (at_key KBlockIds items) (each block_of) rest

  -- the parts make the object that these members are
  pub object_from-is : object_from parts ≡ object_in (object found)
  unfolding object_from object_in
  object_from-is = rw (kind_from-is, version_from-is, directory_from-is, file_from-is)

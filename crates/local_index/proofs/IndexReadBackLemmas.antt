-- The written value of an index is read as the index. The key lemmas are index_in-data, index_of-known and IsSound-insert.
use Rattle.std.proofs.Common.{◌≡◌, ◌≢◌, inl, inr, ℕ, ℤ, ◌-◌, ◌^◌, ◌<◌, Bool, true, false, cond, List, [], ◌∷◌, length, map as map_list, codes, refl, sym, ap, ◌∙◌, subst, Option, Some, None, is_some, Ok, true≢false, arith, FitsSigned, w64}
use Rattle.std.specs.List.{AllByRecursion, list_all}
use Rattle.std.specs.FinMap as map
use Rattle.hex.specs.Hex.{encode_lower}
use Rattle.uuid.specs.Text.{hyphenated_text, lower}
use Rattle.ids.specs.ObjectId.{nil}
use Rattle.serde_json.specs.Data.{Data, number, string, array, unsigned}
use Rattle.serde_json.specs.Find.{get, of_integer}
use Rattle.serde_json.specs.View.{items_of}
use Rattle.fs_objects.specs.Mode.{is_file_mode}
use Rattle.json_words.specs.Fields.{is_object, has_only}
use Rattle.json_words.specs.IdText.{library_id_of, id_data}
use Rattle.json_words.specs.JsonText.{json_of}
use Rattle.json_words.proofs.FoundLemmas.{number_field-found, number_between-found, integer_field-found, text_field-found, array_field-found, id_field-found, stored_id_in-found}
use Rattle.tree_model.specs.Path.{PathV, IsPath, path_cmp, path_text, parent_of}
use Rattle.tree_model.specs.PathOrder.{paths_total, paths_exact}
use Rattle.tree_model.proofs.ListedLemmas.{same_path, same_path-true, same_path-apart}
use Rattle.tree_model.proofs.MovingLemmas.{In}
use Rattle.folder_side.proofs.SortedEntryLemmas.{IsBefore, Rises, Rises-entries, found_of, missed, less_apart_back}
use Rattle.local_index.specs.IndexText.{KnownPaths, path_in, mode_in, file_keys, file_in, known_in, with_entry, with_entries, is_dir_in, all_stand, entries_in, right_version, library_in, base_in, index_keys, index_in, index_of}
use Rattle.local_index.specs.IndexSpelling.{directory_with, file_with, known_data, entry_data, base_data, index_with, index_data, HasFileMode, IsProper}
use Rattle.local_index.specs.Reading.{IsSound}
use Rattle.local_index.specs.Typed.{IsTyped, IsTypedKnown, IsTypedFile, IsTypedBase}
use Rattle.local_index.specs.declared.index.Index.{Index}
use Rattle.local_index.specs.declared.index.Known.{Known}
use Rattle.local_index.specs.declared.index.Known.TheVariants.{Dir, File}
use Rattle.tree_model.proofs.PathReadingLemmas.{path_of-text}

-- ---- one entry

path_in-found : (d : Data) (path : PathV) → get (codes "path") d ≡ Some (string (path_text path)) → path ≢ [] → IsPath path → path_in d ≡ Ok path
unfolding path_in
path_in-found d path is some good = rw (text_field-found (codes "path") d (path_text path) is, path_of-text path some good)

mode_in-found : (d : Data) (mode : ℕ) → get (codes "mode") d ≡ Some (number (unsigned mode)) → mode < 2 ^ 32 → is_file_mode mode ≡ true → mode_in d ≡ Ok mode
unfolding mode_in
mode_in-found d mode is small file = rw (number_between-found 0 (2 ^ 32 - 1) (codes "mode") d mode is (omega arith) (omega arith), file)

-- the fields of a file stand in a value
record Stands (d : Data) (id own : List ℕ) (size mode : ℕ) (mtime : ℤ) (modifier : List ℕ) : Type 0 where
  only : has_only file_keys d ≡ true
  id_is : get (codes "id") d ≡ Some (string (encode_lower id))
  mode_is : get (codes "mode") d ≡ Some (number (unsigned mode))
  modifier_is : get (codes "modifier") d ≡ Some (string modifier)
  mtime_is : get (codes "mtime") d ≡ Some (number (of_integer mtime))
  own_is : get (codes "own") d ≡ Some (string (encode_lower own))
  size_is : get (codes "size") d ≡ Some (number (unsigned size))

file_in-found : (d : Data) (id own : List ℕ) (size mode : ℕ) (mtime : ℤ) (modifier : List ℕ) → Stands d id own size mode mtime modifier
    → IsTypedFile id own mode → FitsSigned w64 mtime → is_file_mode mode ≡ true → file_in d ≡ Ok (File id own size mode mtime modifier)
unfolding file_in
file_in-found d id own size mode mtime modifier stands typed fits file =
    rw (
      stands.only,
      id_field-found (codes "id") d (encode_lower id) id stands.id_is typed.id_reads,
      mode_in-found d mode stands.mode_is typed.small file,
      text_field-found (codes "modifier") d modifier stands.modifier_is,
      integer_field-found (codes "mtime") d mtime stands.mtime_is fits,
      id_field-found (codes "own") d (encode_lower own) own stands.own_is typed.own_reads,
      number_field-found (codes "size") d size stands.size_is,
    )

known_in-file : (d : Data) (known : Known) → has_only (codes "path" ∷ []) d ≡ false → file_in d ≡ Ok known → known_in d ≡ Ok known
unfolding known_in
known_in-file d known other reads = rw (other, reads)

known_in-dir : (d : Data) → has_only (codes "path" ∷ []) d ≡ true → known_in d ≡ Ok Dir
unfolding known_in
known_in-dir d only = rw only

known_in-data : (path : PathV) (known : Known) → IsTypedKnown known → HasFileMode known → known_in (known_data path known) ≡ Ok known
unfolding directory_with file_with has_only file_keys
known_in-data path Dir typed mode = known_in-dir (directory_with (path_text path)) refl
known_in-data path (File id own size mode mtime modifier) typed file =
    let d = file_with (id_data id) mode modifier mtime (id_data own) (path_text path) size in
    known_in-file d (File id own size mode mtime modifier) refl
    (file_in-found d id own size mode mtime modifier (record { only = refl; id_is = refl; mode_is = refl; modifier_is = refl; mtime_is = refl; own_is = refl; size_is = refl }) typed.0 typed.1 file)

path_in-data : (path : PathV) (known : Known) → path ≢ [] → IsPath path → path_in (known_data path known) ≡ Ok path
unfolding directory_with file_with
path_in-data path Dir some good = path_in-found (directory_with (path_text path)) path refl some good
path_in-data path (File id own size mode mtime modifier) some good =
    path_in-found (file_with (id_data id) mode modifier mtime (id_data own) (path_text path) size) path refl some good

-- what an entry has to be read as what was written
pub record IsGood (e : PathV × Known) : Type 0 where
  pub some : e.0 ≢ []
  pub typed : IsTyped e
  pub mode : HasFileMode e.1

with_entry-data : (entries : KnownPaths) (e : PathV × Known) → IsGood e → map.get entries e.0 ≡ None → with_entry entries (entry_data e) ≡ Ok (map.insert entries e.0 e.1)
unfolding with_entry
with_entry-data entries e good new =
    rw (path_in-data e.0 e.1 good.some good.typed.path, known_in-data e.0 e.1 good.typed.known good.mode, new)

-- ---- all entries

abbrev put_all : KnownPaths → List (PathV × Known) → KnownPaths
put_all entries [] = entries
put_all entries (e ∷ es) = put_all (map.insert entries e.0 e.1) es

-- none of these paths has an entry yet
abbrev AreNew : KnownPaths → List (PathV × Known) → Type 0
AreNew entries es = AllByRecursion (λ (e : PathV × Known). map.get entries e.0 ≡ None) es

new_on : (entries : KnownPaths) (e : PathV × Known) (es : List (PathV × Known)) → IsBefore e.0 es → AreNew entries es → AreNew (map.insert entries e.0 e.1) es
new_on entries e [] before new = tt
new_on entries e (f ∷ es) before new = (
  map.get-insert paths_total entries e.0 e.1 f.0 ∙ ap (λ b. cond b (Some e.1) (map.get entries f.0)) (less_apart_back e.0 f.0 before.0) ∙ new.0,
  new_on entries e es before.1 new.1,
)

with_entries-data : (entries : KnownPaths) (es : List (PathV × Known)) → Rises es → AllByRecursion IsGood es → AreNew entries es
    → with_entries entries (map_list entry_data es) ≡ Ok (put_all entries es)
with_entries-data entries [] rises good new = refl
with_entries-data entries (e ∷ es) rises good new =
    rw (with_entry-data entries e good.0 new.0) (with_entries-data (map.insert entries e.0 e.1) es rises.1 good.1 (new_on entries e es rises.0 new.1))

abbrev found_or : Option Known → Option Known → Option Known
found_or None other = other
found_or (Some known) other = Some known

get-put_all : (entries : KnownPaths) (es : List (PathV × Known)) → Rises es → (q : PathV) → map.get (put_all entries es) q ≡ found_or (map.find path_cmp q es) (map.get entries q)
get-put_all entries [] rises q = refl
get-put_all entries (e ∷ es) rises q =
    get-put_all (map.insert entries e.0 e.1) es rises.1 q ∙ ap (found_or (map.find path_cmp q es)) (map.get-insert paths_total entries e.0 e.1 q) ∙ by (same_path q e.0) refl
  where
    by : (b : Bool) → same_path q e.0 ≡ b → found_or (map.find path_cmp q es) (cond b (Some e.1) (map.get entries q)) ≡ found_or (cond b (Some e.1) (map.find path_cmp q es)) (map.get entries q)
    by true is = ap (λ o. found_or o (Some e.1)) (ap (λ p. map.find path_cmp p es) (same_path-true q e.0 is) ∙ missed e.0 es rises.0)
    by false is = refl

or_none : (o : Option Known) → found_or o None ≡ o
or_none None = refl
or_none (Some known) = refl

put_all-entries : (m : KnownPaths) → put_all map.empty (map.entries m) ≡ m
put_all-entries m = map.same_map paths_total paths_exact (put_all map.empty (map.entries m)) m (λ q.
    get-put_all map.empty (map.entries m) (Rises-entries m) q ∙ ap (found_or (map.find path_cmp q (map.entries m))) (map.get-empty {X = Known} path_cmp q)
    ∙ or_none (map.find path_cmp q (map.entries m)) ∙ sym (map.get-entries m q))

all_new : (es : List (PathV × Known)) → AreNew map.empty es
all_new [] = tt
all_new (e ∷ es) = (map.get-empty {X = Known} path_cmp e.0, all_new es)

entries_in-found : (d : Data) (m : KnownPaths) → get (codes "entries") d ≡ Some (array (items_of (map_list entry_data (map.entries m)))) → AllByRecursion IsGood (map.entries m) → all_stand m ≡ true
    → entries_in d ≡ Ok m
unfolding entries_in
entries_in-found d m is good stands =
    rw (
      array_field-found (codes "entries") d (map_list entry_data (map.entries m)) is,
      with_entries-data map.empty (map.entries m) (Rises-entries m) good (all_new (map.entries m)) ∙ ap Ok (put_all-entries m),
      stands,
    )

-- ---- the whole text

right_version-found : (d : Data) → get (codes "version") d ≡ Some (number (unsigned 1)) → right_version d ≡ Ok tt
unfolding right_version
right_version-found d is = rw (number_field-found (codes "version") d 1 is)

library_in-found : (d : Data) (lib : List ℕ) → get (codes "lib") d ≡ Some (string (hyphenated_text lower lib)) → library_id_of (hyphenated_text lower lib) ≡ Some lib → library_in d ≡ Ok lib
unfolding library_in
library_in-found d lib is reads = rw (text_field-found (codes "lib") d (hyphenated_text lower lib) is, reads)

base_in-found : (d : Data) (base : Option (List ℕ)) → get (codes "base") d ≡ Some (base_data base) → IsTypedBase base → base ≢ Some nil → base_in d ≡ Ok base
unfolding base_in
base_in-found d None is typed other = rw is
base_in-found d (Some id) is typed other = rw (is, stored_id_in-found (encode_lower id) id typed (λ e. other (ap Some e)))

index_in-found : (d : Data) (index : Index) → right_version d ≡ Ok tt → library_in d ≡ Ok index.lib → base_in d ≡ Ok index.base → entries_in d ≡ Ok index.entries → has_only index_keys d ≡ true → index_in d ≡ Ok index
unfolding index_in
index_in-found d index version lib base entries only = rw (version, lib, base, entries, only)

-- each entry is good
good_entries : (m : KnownPaths) → map.get m [] ≡ None → ((path : PathV) (known : Known) → map.get m path ≡ Some known → HasFileMode known)
    → (es : List (PathV × Known)) → ((e : PathV × Known) → In e es → In e (map.entries m)) → AllByRecursion IsTyped es → AllByRecursion IsGood es
good_entries m no_root modes [] inside typed = tt
good_entries m no_root modes (e ∷ es) inside typed = (
  record {
    some = λ is. true≢false (sym (ap is_some there) ∙ ap (λ p. is_some (map.get m p)) is ∙ ap is_some no_root);
    typed = typed.0;
    mode = modes e.0 e.1 there;
  },
  good_entries m no_root modes es (λ f h. inside f (inr h)) typed.1,
)
  where
    there : map.get m e.0 ≡ Some e.1
    there = map.get-entries m e.0 ∙ found_of (map.entries m) e (Rises-entries m) (inside e (inl refl))

pub index_in-data : (index : Index) → IsProper index → AllByRecursion IsTyped (map.entries index.entries) → library_id_of (hyphenated_text lower index.lib) ≡ Some index.lib → IsTypedBase index.base
    → index_in (index_data index) ≡ Ok index
unfolding index_with has_only index_keys
index_in-data index proper typed lib base =
    let d = index_data index in
    index_in-found d index (right_version-found d refl) (library_in-found d index.lib refl lib) (base_in-found d index.base refl base proper.base)
    (entries_in-found d index.entries refl (good_entries index.entries proper.no_root proper.modes (map.entries index.entries) (λ e h. h) typed) proper.stands)
    refl

pub index_of-known : (bytes : List ℕ) (d : Data) → json_of bytes ≡ Some d → is_object d ≡ true → index_of bytes ≡ index_in d
unfolding index_of
index_of-known bytes d is object = rw (is, object)

pub is_object-index_data : (index : Index) → is_object (index_data index) ≡ true
unfolding index_with
is_object-index_data index = refl

-- ---- what is read is proper

pub IsSound-insert : (entries : KnownPaths) (path : PathV) (known : Known) → IsSound entries → path ≢ [] → HasFileMode known → IsSound (map.insert entries path known)
IsSound-insert entries path known sound some mode = record {
  no_root = map.get-insert paths_total entries path known [] ∙ ap (λ b. cond b (Some known) (map.get entries [])) (same_path-apart [] path (λ e. some (sym e))) ∙ sound.no_root;
  modes = λ q k is. by q k (same_path q path) (sym (map.get-insert paths_total entries path known q) ∙ is);
}
  where
    by : (q : PathV) (k : Known) (b : Bool) → cond b (Some known) (map.get entries q) ≡ Some k → HasFileMode k
    by q k true is = let same : known ≡ k = cc in subst HasFileMode same mode
    by q k false is = sound.modes q k is

pub IsSound-empty : IsSound map.empty
IsSound-empty = record {
  no_root = map.get-empty {X = Known} path_cmp [];
  modes = λ q known is. absurd (true≢false (sym (ap is_some is) ∙ ap is_some (map.get-empty {X = Known} path_cmp q)));
}

no_entries : (m : KnownPaths) → map.len m ≡ 0 → map.entries m ≡ []
no_entries m e = none (map.entries m) (sym (map.len-entries m) ∙ e)
  where
    none : (es : List (PathV × Known)) → length es ≡ 0 → es ≡ []
    none [] e = refl
    none (f ∷ es) e = absurd (omega arith)

-- an index without an entry
pub IsProper-empty : (lib : List ℕ) → IsProper (record { lib = lib; base = None; entries = map.empty })
IsProper-empty lib = record {
  base = λ e. cc;
  no_root = IsSound-empty.no_root;
  stands = ap (λ es. list_all (λ entry. is_dir_in map.empty (parent_of entry.0)) es) (no_entries map.empty (map.len-empty path_cmp Known));
  modes = IsSound-empty.modes;
}

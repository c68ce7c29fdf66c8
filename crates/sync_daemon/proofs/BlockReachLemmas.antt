-- The blocks of a root's files are reached from it. The key lemmas are reached_entry and reached_blocks.
use Rattle.std.proofs.Common.{◌≡◌, ◌||◌, ℕ, ℤ, Bool, true, false, All, if◌then◌else◌, List, [], ◌∷◌, Option, None, Some, is_some, option_map, option_and_then, Result, Ok, Err, refl, sym, ap, subst, ◌∙◌, inl, inr, true≢false}
use Rattle.std.specs.Ordering.{eq_by_cmp}
use Rattle.std.proofs.lemmas.List.Elements.{All-cons, All-nil, All-weaker}
use Rattle.ids.specs.Key.{Objects, key_cmp}
use Rattle.ids.specs.declared.key.Key.{Key}
use Rattle.fs_objects.specs.Mode.{is_directory_mode}
use Rattle.fs_objects.specs.declared.dirent.Dirent.{Dirent}
use Rattle.fs_objects.specs.declared.fs_object.FsObject.{FsObject}
use Rattle.fs_objects.specs.declared.fs_object.FsObject.TheVariants as fs
use Rattle.tree_model.specs.Path.{PathV}
use Rattle.object_graph.specs.Objects.{block_key, blocks_at, blocks_of, directory_in, dirents_at, entries_of, entry_in, entry_named, entry_of, fs_at, fs_key, in_name_order, is_nil}
use Rattle.object_graph.specs.Reached.{ReachedFrom, block_keys, entry_keys, named_by_fs, own_keys}
use Rattle.object_graph.specs.Traversal.{is_in}
use Rattle.object_graph.specs.declared.entry.Entry.{Entry}
use Rattle.object_graph.specs.declared.entry.Entry.TheVariants as entry
use Rattle.object_graph.specs.declared.fault.TreeFault.{TreeFault}
use Rattle.object_graph.proofs.EntryLemmas.{In, named_in_order, named_member}
use Rattle.object_graph.proofs.KeyLemmas.{in_append}
use Rattle.object_graph.proofs.ReachingLemmas.{in_first}

-- ---- what a directory and a file name

or_left : (a b : Bool) → a ≡ true → (a || b) ≡ true
or_left a b is = ap (λ (x : Bool). x || b) is

or_right : (a b : Bool) → b ≡ true → (a || b) ≡ true
or_right true b is = refl
or_right false b is = is

-- the object of an entry is named
own_named : (entries : List Dirent) (e : Dirent) → In e entries → is_nil e.id ≡ false → is_in (entry_keys entries) (fs_key e.id) ≡ true
unfolding In
own_named [] e there some = absurd there
own_named (x ∷ entries) e (inl is) some =
    in_append (own_keys x.id) (entry_keys entries) (fs_key e.id)
    ∙ or_left (is_in (own_keys x.id) (fs_key e.id)) (is_in (entry_keys entries) (fs_key e.id))
    (ap (λ (d : Dirent). is_in (own_keys d.id) (fs_key e.id)) (sym is) ∙ ap (λ (b : Bool). is_in (if b then [] else fs_key e.id ∷ []) (fs_key e.id)) some ∙ in_first (fs_key e.id) [])
own_named (x ∷ entries) e (inr there) some =
    in_append (own_keys x.id) (entry_keys entries) (fs_key e.id)
    ∙ or_right (is_in (own_keys x.id) (fs_key e.id)) (is_in (entry_keys entries) (fs_key e.id)) (own_named entries e there some)

-- each block of a file is
blocks_named : (whole : List Key) (ids : List (List ℕ)) → ((key : Key) → is_in (block_keys ids) key ≡ true → is_in whole key ≡ true)
    → All (λ (id : List ℕ). is_in whole (block_key id) ≡ true) ids
blocks_named whole [] within = All-nil (λ (id : List ℕ). is_in whole (block_key id) ≡ true)
blocks_named whole (id ∷ ids) within =
    All-cons (λ (other : List ℕ). is_in whole (block_key other) ≡ true) id ids (within (block_key id) (in_first (block_key id) (block_keys ids)))
    (blocks_named whole ids (λ key is. within key (or_right (eq_by_cmp key_cmp key (block_key id)) (is_in (block_keys ids) key) is)))

-- ---- below what is reached

module _ (objects : Objects) (from : List Key) where
  -- an object that there is, is reached
  abbrev OwnReached : List ℕ → Type 0
  OwnReached id = is_nil id ≡ false → ReachedFrom objects [] from (fs_key id)

  -- the entry of a directory that is reached
  entry_reached : (dir : List ℕ) → OwnReached dir → (name : List ℕ) (e : Dirent) → entry_named name (dirents_at objects dir) ≡ Some e → OwnReached e.id
  entry_reached dir own name e is some = by (is_nil dir) refl is
    where
      read : is_nil dir ≡ false → (r : Result FsObject TreeFault) → fs_at objects dir ≡ r → entry_named name (entries_of r) ≡ Some e → ReachedFrom objects [] from (fs_key e.id)
      read apart (Ok (fs.Dir entries)) stored found =
          ReachedFrom.names (fs_key dir) (fs_key e.id) (own apart)
          (ap (λ (x : Result FsObject TreeFault). is_in (named_by_fs x) (fs_key e.id)) stored
          ∙ own_named (in_name_order entries) e (named_member name (in_name_order entries) e (named_in_order name entries ∙ found)) some) refl
      read apart (Ok (fs.File file)) stored found = cc
      read apart (Err why) stored found = cc

      by : (b : Bool) → is_nil dir ≡ b → entry_named name (if b then [] else entries_of (fs_at objects dir)) ≡ Some e → ReachedFrom objects [] from (fs_key e.id)
      by true none found = cc
      by false apart found = read apart (fs_at objects dir) refl found

  dir_reached : (o : Option Dirent) (id : List ℕ) → ((e : Dirent) → o ≡ Some e → OwnReached e.id) → directory_in o ≡ Some id → OwnReached id
  dir_reached None id all is = absurd (true≢false (sym (ap is_some is)))
  dir_reached (Some e) id all is = by (is_directory_mode e.mode) is
    where
      by : (b : Bool) → (if b then Some e.id else None) ≡ Some id → OwnReached id
      by true same = let one : e.id ≡ id = cc in subst OwnReached one (all e refl)
      by false none = absurd (true≢false (sym (ap is_some none)))

  abbrev id_in : Option Entry → List ℕ
  id_in (Some (entry.File id mode mtime modifier size)) = id
  id_in _ = []

  abbrev is_file_in : Option Entry → Bool
  is_file_in (Some (entry.File id mode mtime modifier size)) = true
  is_file_in _ = false

  file_reached : (o : Option Dirent) (id modifier : List ℕ) (mode size : ℕ) (mtime : ℤ) → ((e : Dirent) → o ≡ Some e → OwnReached e.id)
      → option_map entry_of o ≡ Some (entry.File id mode mtime modifier size) → OwnReached id
  file_reached None id modifier mode size mtime all is = absurd (true≢false (sym (ap is_some is)))
  file_reached (Some e) id modifier mode size mtime all is = by (is_directory_mode e.mode) is
    where
      by : (b : Bool) → Some (if b then entry.Dir else entry.File e.id e.mode e.mtime e.modifier e.size) ≡ Some (entry.File id mode mtime modifier size) → OwnReached id
      by true dir = absurd (true≢false (sym (ap is_file_in dir)))
      by false file = subst OwnReached (ap id_in file) (all e refl)

  -- the object of a file below it
  pub reached_entry : (path : PathV) (dir : List ℕ) → OwnReached dir → (id modifier : List ℕ) (mode size : ℕ) (mtime : ℤ)
      → entry_in objects (dirents_at objects dir) path ≡ Some (entry.File id mode mtime modifier size) → OwnReached id
  reached_entry [] dir own id modifier mode size mtime is = cc
  reached_entry (name ∷ []) dir own id modifier mode size mtime is =
      file_reached (entry_named name (dirents_at objects dir)) id modifier mode size mtime (entry_reached dir own name) is
  reached_entry (name ∷ next ∷ path) dir own id modifier mode size mtime is =
      by (directory_in (entry_named name (dirents_at objects dir))) refl is (λ below its found. reached_entry (next ∷ path) below its id modifier mode size mtime found)
    where
      by : (o : Option (List ℕ)) → directory_in (entry_named name (dirents_at objects dir)) ≡ o
          → option_and_then (λ below. entry_in objects (dirents_at objects below) (next ∷ path)) o ≡ Some (entry.File id mode mtime modifier size)
          → ((below : List ℕ) → OwnReached below → entry_in objects (dirents_at objects below) (next ∷ path) ≡ Some (entry.File id mode mtime modifier size) → OwnReached id) → OwnReached id
      by None none found more = absurd (true≢false (sym (ap is_some found)))
      by (Some below) there found more = more below (dir_reached (entry_named name (dirents_at objects dir)) below (entry_reached dir own name) there) found

  -- and its blocks
  abbrev IsBlockReached : List ℕ → Type 0
  IsBlockReached block = ReachedFrom objects [] from (block_key block)

  pub reached_blocks : (id : List ℕ) → OwnReached id → All IsBlockReached (blocks_at objects id)
  reached_blocks id own = by (is_nil id) refl
    where
      read : is_nil id ≡ false → (r : Result FsObject TreeFault) → fs_at objects id ≡ r → All IsBlockReached (blocks_of r)
      read apart (Ok (fs.File file)) stored =
          All-weaker (λ (block : List ℕ). is_in (block_keys file.blocks) (block_key block) ≡ true) IsBlockReached
          (λ block is. ReachedFrom.names (fs_key id) (block_key block) (own apart) (ap (λ (x : Result FsObject TreeFault). is_in (named_by_fs x) (block_key block)) stored ∙ is) refl)
          file.blocks (blocks_named (block_keys file.blocks) file.blocks (λ key is. is))
      read apart (Ok (fs.Dir entries)) stored = All-nil IsBlockReached
      read apart (Err why) stored = All-nil IsBlockReached

      by : (b : Bool) → is_nil id ≡ b → All IsBlockReached (if b then [] else blocks_of (fs_at objects id))
      by true none = All-nil IsBlockReached
      by false apart = read apart (fs_at objects id) refl

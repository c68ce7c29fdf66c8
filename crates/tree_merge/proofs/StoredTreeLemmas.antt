-- The entries of a complete root. The key lemmas are seen_entries, whole_entries and file_modes.
use Rattle.std.proofs.Common.{◌≡◌, ◌||◌, ℕ, Bool, true, false, if◌then◌else◌, is_some, List, [], ◌∷◌, refl, sym, ap, ◌∙◌, subst, Option, None, Some, Result, Ok, Err, option_map, option_and_then}
use Rattle.std.specs.FinMap as map
use Rattle.std.specs.List.{AllByRecursion}
use Rattle.std.specs.Ordering.{eq_by_cmp}
use Rattle.ids.specs.Key.{Objects}
use Rattle.ids.specs.declared.key.Key.{Key}
use Rattle.tree_model.specs.Path.{PathV}
use Rattle.tree_model.specs.Tree.{Tree}
use Rattle.fs_objects.specs.FsObject.{fs_of}
use Rattle.fs_objects.specs.Mode.{is_file_mode, is_directory_mode}
use Rattle.fs_objects.specs.declared.dirent.Dirent.{Dirent}
use Rattle.fs_objects.specs.declared.fault.BadFs.{BadFs}
use Rattle.fs_objects.specs.declared.fs_object.FsObject.{FsObject}
use Rattle.fs_objects.specs.declared.fs_object.FsObject.TheVariants as fs
use Rattle.object_graph.specs.Objects.{AreEntriesOf, IsTreeOf, as_read, block_key, directory_in, dirents_at, entries_of, entry_below, entry_in, entry_named, entry_of, fs_at, fs_in, fs_key, is_nil, name_cmp, node_of}
use Rattle.object_graph.specs.Traversal.{Walk, IsCompleteRoot, failed, sized, start, then_read, visited, walk_below, walk_block, walk_blocks, walk_found, walk_object, walk_root}
use Rattle.object_graph.specs.Unchanged.{Keeps}
use Rattle.object_graph.specs.declared.entry.Entry.{Entry}
use Rattle.object_graph.specs.declared.entry.Entry.TheVariants.{Dir, File}
use Rattle.object_graph.specs.declared.fault.TreeFault.{TreeFault}
use Rattle.object_graph.specs.declared.fault.TreeFault.TheVariants.{Incomplete}
use Rattle.object_graph.proofs.BelowLemmas.{Reached, reaches}
use Rattle.object_graph.proofs.CommitLemmas.{below_grown}
use Rattle.object_graph.proofs.SameBelowLemmas.{ran_root, same_entry}
use Rattle.object_graph.proofs.SchemeLemmas.{none_before}
use Rattle.object_graph.proofs.StoredLemmas.{agree_kept, none_stored, root_stored}
use Rattle.tree_walk.proofs.FileLemmas.{file_walk}
use Rattle.tree_merge.specs.FileChoice.{IsWholeIf}
use Rattle.tree_merge.specs.FileEntry.{as_entry, file_in}
use Rattle.tree_merge.specs.Sides.{Entries, IsSeen}
use Rattle.tree_merge.specs.Telling.{IsWhole}
use Rattle.tree_merge.specs.declared.file_entry.FileEntry.{FileEntry}
use Rattle.tree_merge.proofs.GoodModeLemmas.{Known, good_modes}

-- ---- modes

abbrev pub HasFileMode : Entry → Type 0
HasFileMode x = (file : FileEntry) → x ≡ as_entry file → is_file_mode file.mode ≡ true

file_mode : (e : Dirent) (x : Entry) → Known e → entry_of e ≡ x → HasFileMode x
file_mode e x known is file told = by (is_file_mode e.mode) (is_directory_mode e.mode) known refl (is ∙ told)
  where
    by : (f d : Bool) → (f || d) ≡ true → is_file_mode e.mode ≡ f → (if d then Dir else File e.id e.mode e.mtime e.modifier e.size) ≡ as_entry file → is_file_mode file.mode ≡ true
    by true false some is same = let one : e.mode ≡ file.mode = cc in subst (λ m. is_file_mode m ≡ true) one is
    by false false some is same = cc some
    by true true some is same = cc same
    by false true some is same = cc same

known_named : (entries : List Dirent) → AllByRecursion Known entries → (name : List ℕ) (e : Dirent) → entry_named name entries ≡ Some e → Known e
known_named [] all name e is = cc
known_named (x ∷ entries) all name e is = by (eq_by_cmp name_cmp name x.name) (known_named entries all.1 name e) is
  where
    by : (b : Bool) → (entry_named name entries ≡ Some e → Known e) → (if b then Some x else entry_named name entries) ≡ Some e → Known e
    by true more is = let one : x ≡ e = cc in subst Known one all.0
    by false more is = more is

module _ (A : Objects) where
  known_dirents : (id : List ℕ) → AllByRecursion Known (dirents_at A id)
  known_dirents id = by (is_nil id)
    where
      object : (bytes : List ℕ) (r : Result FsObject BadFs) → fs_of bytes ≡ r → AllByRecursion Known (entries_of (as_read (fs_key id) r))
      object bytes (Ok (fs.Dir entries)) is = good_modes bytes entries is
      object bytes (Ok (fs.File file)) is = tt
      object bytes (Err bad) is = tt

      read : (o : Option (List ℕ)) → AllByRecursion Known (entries_of (fs_in (fs_key id) o))
      read None = tt
      read (Some bytes) = object bytes (fs_of bytes) refl

      by : (n : Bool) → AllByRecursion Known (if n then [] else entries_of (fs_at A id))
      by true = tt
      by false = read (map.get A (fs_key id))

  -- each file that lies below a directory has a file's mode
  pub file_modes : (path : PathV) (id : List ℕ) (x : Entry) → entry_below A path id ≡ Some x → HasFileMode x
  file_modes [] id x is = cc
  file_modes (name ∷ []) id x is = by (entry_named name (dirents_at A id)) refl is
    where
      by : (o : Option Dirent) → entry_named name (dirents_at A id) ≡ o → option_map entry_of o ≡ Some x → HasFileMode x
      by None found is = cc
      by (Some e) found is =
          let same : entry_of e ≡ x = cc in
          file_mode e x (known_named (dirents_at A id) (known_dirents id) name e found) same
  file_modes (name ∷ next ∷ path) id x is = by (directory_in (entry_named name (dirents_at A id))) (λ below. file_modes (next ∷ path) below x) is
    where
      by : (o : Option (List ℕ)) → ((below : List ℕ) → entry_below A (next ∷ path) below ≡ Some x → HasFileMode x)
          → option_and_then (λ id. entry_in A (dirents_at A id) (next ∷ path)) o ≡ Some x → HasFileMode x
      by None more is = cc
      by (Some below) more is = more below is

  -- ---- whole files

  block_clear : (w : Walk) (key : Key) (b : Bool) → (if b then visited key w else failed (Incomplete key) (visited key w)).fault ≡ None → w.fault ≡ None
  block_clear w key true none = none
  block_clear w key false none = cc

  blocks_clear : (ids : List (List ℕ)) (w : Walk) → (walk_blocks true A ids w).fault ≡ None → w.fault ≡ None
  blocks_clear [] w none = none
  blocks_clear (id ∷ ids) w none =
      block_clear w (block_key id) (is_some (map.get A (block_key id))) (none_before (walk_block true A id w) (walk_blocks true A ids) none)

  whole_file : (room : ℕ) (path : PathV) (id : List ℕ) (w : Walk) → (walk_object true A (walk_below true A room) false path id w).fault ≡ None → IsWhole A id
  whole_file room path id w none = by (is_nil id) none
    where
      read : (r : Result FsObject TreeFault) → (then_read r (walk_found true A (walk_below true A room) false path id) (visited (fs_key id) w)).fault ≡ None
          → (then_read r (walk_found true A (walk_below true A 100) false [] id) (visited (fs_key id) start)).fault ≡ None
      read (Ok (fs.File file)) none =
          let v : Walk = visited (fs_key id) w in
          let clear : v.fault ≡ None = blocks_clear file.blocks v (none_before (walk_blocks true A file.blocks v) (sized true A id file) none) in
          file_walk A id file (visited (fs_key id) start) refl ∙ sym (file_walk A id file v clear) ∙ none
      read (Ok (fs.Dir entries)) none = cc
      read (Err fault) none = cc

      by : (n : Bool) → (if n then w else then_read (fs_at A id) (walk_found true A (walk_below true A room) false path id) (visited (fs_key id) w)).fault ≡ None
          → (if n then start else then_read (fs_at A id) (walk_found true A (walk_below true A 100) false [] id) (visited (fs_key id) start)).fault ≡ None
      by true none = refl
      by false none = read (fs_at A id) none

  whole_reached : (visits : List Key) (file : FileEntry) → Reached true A (as_entry file) visits → IsWhole A file.id
  whole_reached visits file reached = by (is_directory_mode reached.e.mode) reached.is reached.ran.none
    where
      by : (b : Bool) → (if b then Dir else File reached.e.id reached.e.mode reached.e.mtime reached.e.modifier reached.e.size) ≡ as_entry file
          → (walk_object true A (walk_below true A reached.room) b reached.path reached.e.id reached.ran.from).fault ≡ None → IsWhole A file.id
      by true is none = cc is
      by false is none =
          let one : reached.e.id ≡ file.id = cc in
          subst (IsWhole A) one (whole_file reached.room reached.path reached.e.id reached.ran.from none)

-- ---- a complete root

module _ (objects more : Objects) (keeps : Keeps objects more) (root : List ℕ) (complete : IsCompleteRoot objects root) where
  pub entry_stays : (path : PathV) → entry_below more path root ≡ entry_below objects path root
  entry_stays path =
      same_entry true objects more path 100 [] root (walk_root true objects root start).visits (ran_root true objects root start complete)
      (agree_kept objects more (walk_root true objects root start).visits keeps (root_stored objects true root start (none_stored objects) complete))

  -- its entries tell its tree, also among more objects
  pub seen_entries : (entries : Entries) → AreEntriesOf objects root entries → (tree : Tree) → IsTreeOf objects root tree → IsSeen more entries tree
  seen_entries entries are tree is path =
      is path ∙ sym (below_grown objects more 100 [] root complete keeps path) ∙ ap (option_map (node_of more)) (entry_stays path ∙ sym (are path))

-- its files are whole
pub whole_entries : (objects : Objects) (root : List ℕ) → IsCompleteRoot objects root → (entries : Entries) → AreEntriesOf objects root entries
    → (path : PathV) → IsWholeIf objects (file_in (map.get entries path))
whole_entries objects root complete entries are path = by (map.get entries path) (sym (are path))
  where
    by : (o : Option Entry) → entry_below objects path root ≡ o → IsWholeIf objects (file_in o)
    by None is = tt
    by (Some Dir) is = tt
    by (Some (File id mode mtime modifier size)) is =
        whole_reached objects (walk_root true objects root start).visits (record { id = id; mode = mode; mtime = mtime; modifier = modifier; size = size })
        (reaches true objects path 100 [] root (walk_root true objects root start).visits (ran_root true objects root start complete) (File id mode mtime modifier size) is).0

-- A root is complete whose directories can be read, whose files are whole, and which fits the limits. The key lemmas are
-- fine_below and complete_root.
use Rattle.std.proofs.Common.{◌≡◌, ◌≤◌, ◌+◌, ◌⊎◌, ℕ, zero, suc, Bool, true, false, if◌then◌else◌, List, [], ◌∷◌, ◌++◌, length, refl, sym, ap, ◌∙◌, subst, Option, None, Some, Result, Ok, Err, option_map, option_and_then, arith, length-append, inl, inr}
use Rattle.ids.specs.Key.{Objects}
use Rattle.tree_model.specs.Path.{PathV}
use Rattle.fs_objects.specs.Mode.{is_directory_mode}
use Rattle.fs_objects.specs.declared.dirent.Dirent.{Dirent}
use Rattle.fs_objects.specs.declared.fs_object.FsObject.{FsObject}
use Rattle.fs_objects.specs.declared.fs_object.FsObject.TheVariants as fs
use Rattle.object_graph.specs.Listing.{Listed, listed, listed_entry, listed_in}
use Rattle.object_graph.specs.Objects.{directory_in, dirents_at, entries_of, entry_below, entry_in, entry_named, entry_of, fs_at, fs_key, in_name_order, is_nil}
use Rattle.object_graph.specs.Traversal.{Walk, counted, start, then_read, then_walk, visited, walk_below, walk_entries, walk_found, walk_object}
use Rattle.object_graph.specs.declared.entry.Entry.{Entry}
use Rattle.object_graph.specs.declared.entry.Entry.TheVariants.{Dir, File}
use Rattle.object_graph.specs.declared.fault.TreeFault.{TreeFault}
use Rattle.object_graph.proofs.CountingLemmas.{counts_below, entry_counts, length-prefixed}
use Rattle.object_graph.proofs.EntryLemmas.{In, Apart, apart_in_order, named_in_order, nothing_in_order, same_name-true}
use Rattle.object_graph.proofs.LimitLemmas.{counted_fits}
use Rattle.object_graph.proofs.SchemeLemmas.{Step, goes_on}
use Rattle.tree_walk.proofs.FileLemmas.{file_walk}
use Rattle.tree_merge.specs.FileEntry.{as_entry}
use Rattle.tree_merge.specs.Telling.{IsWhole}
use Rattle.tree_merge.specs.TreeBuilding.{directory_id_in}
use Rattle.tree_merge.specs.declared.file_entry.FileEntry.{FileEntry}
use Rattle.tree_merge.proofs.DirentLemmas.{same_name, same_name-itself}

-- forty zeros, or the id of a directory object
abbrev pub IsReadable : Objects → List ℕ → Type 0
IsReadable A id = (is_nil id ≡ true) ⊎ ((entries : List Dirent) × (fs_at A id ≡ Ok (fs.Dir entries)))

-- what an entry names is as this says of directories, or a whole file
abbrev pub IsFineEntry : Objects → (List ℕ → Type 0) → List ℕ → Bool → Type 0
IsFineEntry A IsFine id true = IsFine id
IsFineEntry A IsFine id false = IsWhole A id

-- what is below a directory can be read, as far as a path may have so many names more, and goes no further
unfoldable pub Fine : Objects → ℕ → List ℕ → Type 0
Fine A zero id = IsReadable A id × ((name : List ℕ) → entry_named name (dirents_at A id) ≡ None)
Fine A (suc room) id = IsReadable A id × ((name : List ℕ) (e : Dirent) → entry_named name (dirents_at A id) ≡ Some e → IsFineEntry A (Fine A room) e.id (is_directory_mode e.mode))

-- ---- from what stands at each path

-- what stands at each path below a directory
pub record StandsWell (A : Objects) (room : ℕ) (id : List ℕ) : Type 0 where
  pub readable : IsReadable A id
  pub deep : (q : PathV) (x : Entry) → entry_below A q id ≡ Some x → length q ≤ room
  pub dirs : (q : PathV) (i : List ℕ) → directory_id_in A (dirents_at A id) q ≡ Some i → IsReadable A i
  pub files : (q : PathV) (file : FileEntry) → entry_below A q id ≡ Some (as_entry file) → IsWhole A file.id

module _ (A : Objects) where
  stands_below : (room : ℕ) (id : List ℕ) → StandsWell A (suc room) id → (name : List ℕ) (own : List ℕ) → directory_in (entry_named name (dirents_at A id)) ≡ Some own → StandsWell A room own
  stands_below room id well name own is = record {
    readable = well.dirs (name ∷ []) own is;
    deep = deep;
    dirs = dirs;
    files = files;
  }
    where
      deep : (q : PathV) (x : Entry) → entry_below A q own ≡ Some x → length q ≤ room
      deep [] x there = omega arith
      deep (m ∷ rest) x there =
          let long : suc (length (m ∷ rest)) ≤ suc room =
          well.deep (name ∷ m ∷ rest) x (ap (λ (o : Option (List ℕ)). option_and_then (λ i. entry_in A (dirents_at A i) (m ∷ rest)) o) is ∙ there) in
          omega (arith, long)

      dirs : (q : PathV) (i : List ℕ) → directory_id_in A (dirents_at A own) q ≡ Some i → IsReadable A i
      dirs [] i there = cc there
      dirs (m ∷ rest) i there = well.dirs (name ∷ m ∷ rest) i (ap (λ (o : Option (List ℕ)). option_and_then (λ j. directory_id_in A (dirents_at A j) (m ∷ rest)) o) is ∙ there)

      files : (q : PathV) (file : FileEntry) → entry_below A q own ≡ Some (as_entry file) → IsWhole A file.id
      files [] file there = cc there
      files (m ∷ rest) file there = well.files (name ∷ m ∷ rest) file (ap (λ (o : Option (List ℕ)). option_and_then (λ i. entry_in A (dirents_at A i) (m ∷ rest)) o) is ∙ there)

  fine_entry : (room : ℕ) (id : List ℕ) → StandsWell A (suc room) id → ((own : List ℕ) → StandsWell A room own → Fine A room own)
      → (name : List ℕ) (e : Dirent) → entry_named name (dirents_at A id) ≡ Some e → (b : Bool) → is_directory_mode e.mode ≡ b → IsFineEntry A (Fine A room) e.id b
  fine_entry room id well more name e is true dir =
      more e.id (stands_below room id well name e.id (ap directory_in is ∙ ap (λ (b : Bool). if b then Some e.id else None) dir))
  fine_entry room id well more name e is false dir =
      well.files (name ∷ []) (record { id = e.id; mode = e.mode; mtime = e.mtime; modifier = e.modifier; size = e.size })
      (ap (option_map entry_of) is ∙ ap (λ (b : Bool). Some (if b then Dir else File e.id e.mode e.mtime e.modifier e.size)) dir)

  pub fine_below : (room : ℕ) (id : List ℕ) → StandsWell A room id → Fine A room id
  unfolding Fine
  fine_below zero id well = (well.readable, λ name. by name (entry_named name (dirents_at A id)) refl)
    where
      by : (name : List ℕ) (o : Option Dirent) → entry_named name (dirents_at A id) ≡ o → entry_named name (dirents_at A id) ≡ None
      by name None is = is
      by name (Some e) is = let past : suc zero ≤ zero = well.deep (name ∷ []) (entry_of e) (ap (option_map entry_of) is) in absurd (omega (arith, past))
  fine_below (suc room) id well = (well.readable, λ name e is. fine_entry room id well (fine_below room) name e is (is_directory_mode e.mode) refl)

-- ---- the traversal

module _ (A : Objects) where
  -- a whole file has no fault where no fault came before
  file_none : (room : ℕ) (path : PathV) (id : List ℕ) (w : Walk) → w.fault ≡ None → IsWhole A id → (walk_object true A (walk_below true A room) false path id w).fault ≡ None
  file_none room path id w clear whole = by (is_nil id) whole
    where
      read : (r : Result FsObject TreeFault) → (then_read r (walk_found true A (walk_below true A 100) false [] id) (visited (fs_key id) start)).fault ≡ None
          → (then_read r (walk_found true A (walk_below true A room) false path id) (visited (fs_key id) w)).fault ≡ None
      read (Ok (fs.File file)) none = file_walk A id file (visited (fs_key id) w) clear ∙ sym (file_walk A id file (visited (fs_key id) start) refl) ∙ none
      read (Ok (fs.Dir entries)) none = cc
      read (Err fault) none = cc

      by : (n : Bool) → (if n then start else then_read (fs_at A id) (walk_found true A (walk_below true A 100) false [] id) (visited (fs_key id) start)).fault ≡ None
          → (if n then w else then_read (fs_at A id) (walk_found true A (walk_below true A room) false path id) (visited (fs_key id) w)).fault ≡ None
      by true none = clear
      by false none = read (fs_at A id) none

  abbrev Completes : ℕ → Type 0
  Completes room = (path : PathV) (id : List ℕ) (w : Walk) → Fine A room id → w.fault ≡ None → w.paths + length (listed A room id) ≤ 1000000
      → (walk_object true A (walk_below true A room) true path id w).fault ≡ None

  one_none : (room : ℕ) → Completes room → (path : PathV) (e : Dirent) (w : Walk) → IsFineEntry A (Fine A room) e.id (is_directory_mode e.mode) → w.fault ≡ None
      → w.paths + length (if is_directory_mode e.mode then listed A room e.id else []) ≤ 1000000 → (walk_below true A (suc room) (is_directory_mode e.mode) path e.id w).fault ≡ None
  unfolding walk_below
  one_none room all path e w fine clear fits = by (is_directory_mode e.mode) fine fits
    where
      by : (b : Bool) → IsFineEntry A (Fine A room) e.id b → w.paths + length (if b then listed A room e.id else []) ≤ 1000000
          → (walk_object true A (walk_below true A room) b path e.id w).fault ≡ None
      by true fine fits = all path e.id w fine clear fits
      by false fine fits = file_none room path e.id w clear fine

  entries_none : (room : ℕ) → Completes room → (path : PathV) (entries : List Dirent) (w : Walk)
      → ((e : Dirent) → In e entries → IsFineEntry A (Fine A room) e.id (is_directory_mode e.mode)) → w.fault ≡ None
      → w.paths + length (listed_in (listed A room) entries) ≤ 1000000 → (walk_entries true A (walk_below true A (suc room)) path entries w).fault ≡ None
  unfolding In
  entries_none room all path [] w fine clear fits = clear
  entries_none room all path (e ∷ entries) w fine clear fits =
      let step : Step = walk_below true A (suc room) (is_directory_mode e.mode) (path ++ e.name ∷ []) e.id in
      let others : Step = walk_entries true A (walk_below true A (suc room)) path entries in
      let inner : Listed = if is_directory_mode e.mode then listed A room e.id else [] in
      let longer : length (listed_entry (listed A room) e ++ listed_in (listed A room) entries) ≡ length (listed_entry (listed A room) e) + length (listed_in (listed A room) entries) =
      length-append (listed_entry (listed A room) e) (listed_in (listed A room) entries) in
      let first : length (listed_entry (listed A room) e) ≡ suc (length inner) = ap suc (length-prefixed e.name inner) in
      let one : counted w ≡ record w { paths = w.paths + 1 } = counted_fits w (omega (arith, fits, longer, first)) in
      let clear2 : (counted w).fault ≡ None = ap (λ (v : Walk). v.fault) one ∙ clear in
      let paths : (counted w).paths ≡ w.paths + 1 = ap (λ (v : Walk). v.paths) one in
      let mid : Walk = then_walk (counted w) step in
      let ran : mid ≡ step (counted w) = goes_on (counted w) step clear2 in
      let own : (step (counted w)).fault ≡ None = one_none room all (path ++ e.name ∷ []) e (counted w) (fine e (inl refl)) clear2 (omega (arith, fits, longer, first, paths)) in
      let came : (step (counted w)).paths ≡ (counted w).paths + length inner = entry_counts true A room (counts_below true A room) (is_directory_mode e.mode) (path ++ e.name ∷ []) e.id (counted w) own in
      let mid_paths : mid.paths ≡ (step (counted w)).paths = ap (λ (v : Walk). v.paths) ran in
      let mid_clear : mid.fault ≡ None = ap (λ (v : Walk). v.fault) ran ∙ own in
      let on : then_walk mid others ≡ others mid = goes_on mid others mid_clear in
      ap (λ (v : Walk). v.fault) on
      ∙ entries_none room all path entries mid (λ f there. fine f (inr there)) mid_clear (omega (arith, fits, longer, first, paths, came, mid_paths))

  -- one of the entries in the order of names is found by its name
  pub member_named : (entries : List Dirent) → Apart entries → (e : Dirent) → In e entries → entry_named e.name entries ≡ Some e
  unfolding In Apart
  member_named [] apart e there = absurd there
  member_named (x ∷ entries) apart e (inl is) =
      subst (λ (y : Dirent). entry_named y.name (x ∷ entries) ≡ Some y) (sym is) (ap (λ (b : Bool). if b then Some x else entry_named x.name entries) (same_name-itself x.name))
  member_named (x ∷ entries) apart e (inr later) = by (same_name e.name x.name) refl (member_named entries apart.1 e later)
    where
      by : (b : Bool) → same_name e.name x.name ≡ b → entry_named e.name entries ≡ Some e → (if b then Some x else entry_named e.name entries) ≡ Some e
      by true tie found =
          let name : e.name ≡ x.name = same_name-true e.name x.name tie in
          let both : None ≡ Some e = sym apart.0 ∙ ap (λ n. entry_named n entries) (sym name) ∙ found in cc
      by false tie found = found

  -- what is gone over in a directory with these entries
  abbrev Goes : ℕ → Type 0
  Goes room = (path : PathV) (id : List ℕ) (entries : List Dirent) (w : Walk) → dirents_at A id ≡ entries → Fine A room id → w.fault ≡ None
      → w.paths + length (listed A room id) ≤ 1000000 → (walk_entries true A (walk_below true A room) path (in_name_order entries) w).fault ≡ None

  goes_none : Goes zero
  unfolding Fine
  goes_none path id [] w is fine clear fits =
      ap (λ es. (walk_entries true A (walk_below true A zero) path es w).fault) nothing_in_order ∙ clear
  goes_none path id (e ∷ entries) w is fine clear fits =
      let both : None ≡ Some e =
      sym (fine.1 e.name) ∙ ap (entry_named e.name) is ∙ ap (λ (b : Bool). if b then Some e else entry_named e.name entries) (same_name-itself e.name) in cc

  goes_some : (room : ℕ) → Completes room → Goes (suc room)
  unfolding Fine listed
  goes_some room all path id entries w is fine clear fits =
      entries_none room all path (in_name_order entries) w
      (λ e there. fine.1 e.name e (ap (entry_named e.name) is ∙ sym (named_in_order e.name entries) ∙ member_named (in_name_order entries) (apart_in_order entries) e there))
      clear (subst (λ es. w.paths + length (listed_in (listed A room) (in_name_order es)) ≤ 1000000) is fits)

  directory_none : (room : ℕ) → Goes room → ((id : List ℕ) → Fine A room id → IsReadable A id) → Completes room
  directory_none room goes readable path id w fine clear fits = by (readable id fine)
    where
      by : IsReadable A id → (walk_object true A (walk_below true A room) true path id w).fault ≡ None
      by (inl zeros) = ap (λ (b : Bool). (if b then w else then_read (fs_at A id) (walk_found true A (walk_below true A room) true path id) (visited (fs_key id) w)).fault) zeros ∙ clear
      by (inr read) = named (is_nil id) refl
        where
          named : (b : Bool) → is_nil id ≡ b
              → (if b then w else then_read (fs_at A id) (walk_found true A (walk_below true A room) true path id) (visited (fs_key id) w)).fault ≡ None
          named true zeros = clear
          named false other =
              ap (λ r. (then_read r (walk_found true A (walk_below true A room) true path id) (visited (fs_key id) w)).fault) read.1
              ∙ goes path id read.0 (visited (fs_key id) w) (ap (λ (b : Bool). if b then [] else entries_of (fs_at A id)) other ∙ ap entries_of read.1) fine clear fits

  readable_of : (room : ℕ) (id : List ℕ) → Fine A room id → IsReadable A id
  unfolding Fine
  readable_of zero id fine = fine.0
  readable_of (suc room) id fine = fine.0

  pub completes : (room : ℕ) → Completes room
  completes zero = directory_none zero goes_none (readable_of zero)
  completes (suc room) = directory_none (suc room) (goes_some room (completes room)) (readable_of (suc room))

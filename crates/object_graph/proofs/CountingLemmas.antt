-- A traversal counts what lies below its root. The key lemma is counts_below.
use Rattle.std.proofs.Common.{◌≡◌, ◌+◌, ℕ, zero, suc, Bool, true, false, if◌then◌else◌, List, [], ◌∷◌, ◌++◌, length, refl, sym, ap, ◌∙◌, None, Some, Result, Ok, Err, arith, length-append}
use Rattle.ids.specs.Key.{Objects}
use Rattle.tree_model.specs.Path.{PathV}
use Rattle.fs_objects.specs.Mode.{is_directory_mode}
use Rattle.fs_objects.specs.declared.dirent.Dirent.{Dirent}
use Rattle.fs_objects.specs.declared.fs_object.FsObject.{FsObject}
use Rattle.fs_objects.specs.declared.fs_object.FsObject.TheVariants as fs
use Rattle.object_graph.specs.Objects.{fs_key, fs_at, is_nil, entries_of, in_name_order, dirents_at}
use Rattle.object_graph.specs.Traversal.{Walk, visited, counted, then_walk, then_read, walk_entries, walk_found, walk_object, walk_below}
use Rattle.object_graph.specs.declared.fault.TreeFault.{TreeFault}
use Rattle.object_graph.proofs.SchemeLemmas.{Step, none_before, goes_on}
use Rattle.object_graph.proofs.EntryLemmas.{nothing_in_order}
use Rattle.object_graph.proofs.LimitLemmas.{counted_none, file_paths}
use Rattle.object_graph.specs.Listing.{Listed, prefixed, listed_entry, listed_in, listed}

pub length-prefixed : (name : List ℕ) (xs : Listed) → length (prefixed name xs) ≡ length xs
length-prefixed name [] = refl
length-prefixed name (x ∷ xs) = ap suc (length-prefixed name xs)

module _ (blocks : Bool) (A : Objects) where
  -- a file counts no path
  file_counts : (room : ℕ) (path : PathV) (id : List ℕ) (w : Walk) → (walk_object blocks A (walk_below blocks A room) false path id w).paths ≡ w.paths
  file_counts room path id w = by (is_nil id)
    where
      read : (v : Walk) (r : Result FsObject TreeFault) → (then_read r (walk_found blocks A (walk_below blocks A room) false path id) v).paths ≡ v.paths
      read v (Ok (fs.File file)) = file_paths blocks A id file v
      read v (Ok (fs.Dir entries)) = refl
      read v (Err fault) = refl

      by : (n : Bool) → (if n then w else then_read (fs_at A id) (walk_found blocks A (walk_below blocks A room) false path id) (visited (fs_key id) w)).paths ≡ w.paths
      by true = refl
      by false = read (visited (fs_key id) w) (fs_at A id)

  abbrev pub Counts : ℕ → Type 0
  Counts room = (path : PathV) (id : List ℕ) (w : Walk) → (walk_object blocks A (walk_below blocks A room) true path id w).fault ≡ None
      → (walk_object blocks A (walk_below blocks A room) true path id w).paths ≡ w.paths + length (listed A room id)

  pub entry_counts : (room : ℕ) → Counts room → (wants : Bool) (path : PathV) (id : List ℕ) (w : Walk) → (walk_below blocks A (suc room) wants path id w).fault ≡ None
      → (walk_below blocks A (suc room) wants path id w).paths ≡ w.paths + length (if wants then listed A room id else [])
  unfolding walk_below
  entry_counts room all true path id w none = all path id w none
  entry_counts room all false path id w none = omega (arith, file_counts room path id w)

  entries_count : (room : ℕ) → Counts room → (path : PathV) (entries : List Dirent) (w : Walk) → (walk_entries blocks A (walk_below blocks A (suc room)) path entries w).fault ≡ None
      → (walk_entries blocks A (walk_below blocks A (suc room)) path entries w).paths ≡ w.paths + length (listed_in (listed A room) entries)
  entries_count room all path [] w none = omega arith
  entries_count room all path (e ∷ entries) w none =
      let step : Step = walk_below blocks A (suc room) (is_directory_mode e.mode) (path ++ e.name ∷ []) e.id in
      let others : Step = walk_entries blocks A (walk_below blocks A (suc room)) path entries in
      let mid : Walk = then_walk (counted w) step in
      let early : mid.fault ≡ None = none_before mid others none in
      let on : then_walk mid others ≡ others mid = goes_on mid others early in
      let came : (counted w).fault ≡ None = none_before (counted w) step early in
      let ran : mid ≡ step (counted w) = goes_on (counted w) step came in
      let one : (counted w).paths ≡ w.paths + 1 = ap (λ (v : Walk). v.paths) (counted_none w came) in
      let inner : Listed = if is_directory_mode e.mode then listed A room e.id else [] in
      let own : mid.paths ≡ (counted w).paths + length inner =
      ap (λ (v : Walk). v.paths) ran ∙ entry_counts room all (is_directory_mode e.mode) (path ++ e.name ∷ []) e.id (counted w) (ap (λ (v : Walk). v.fault) (sym ran) ∙ early) in
      let rest : (others mid).paths ≡ mid.paths + length (listed_in (listed A room) entries) = entries_count room all path entries mid (ap (λ (v : Walk). v.fault) (sym on) ∙ none) in
      let whole : (then_walk mid others).paths ≡ (others mid).paths = ap (λ (v : Walk). v.paths) on in
      let longer : length (listed_entry (listed A room) e ++ listed_in (listed A room) entries) ≡ length (listed_entry (listed A room) e) + length (listed_in (listed A room) entries) =
      length-append (listed_entry (listed A room) e) (listed_in (listed A room) entries) in
      let first : length (listed_entry (listed A room) e) ≡ suc (length inner) = ap suc (length-prefixed e.name inner) in
      omega (arith, whole, rest, own, one, longer, first)

  no_entries_count : (path : PathV) (entries : List Dirent) (w : Walk) → (walk_entries blocks A (walk_below blocks A zero) path entries w).fault ≡ None
      → (walk_entries blocks A (walk_below blocks A zero) path entries w).paths ≡ w.paths + 0
  unfolding walk_below
  no_entries_count path [] w none = omega arith
  no_entries_count path (e ∷ entries) w none =
      let step : Step = walk_below blocks A zero (is_directory_mode e.mode) (path ++ e.name ∷ []) e.id in
      let others : Step = walk_entries blocks A (walk_below blocks A zero) path entries in
      let mid : Walk = then_walk (counted w) step in
      let early : mid.fault ≡ None = none_before mid others none in
      let came : (counted w).fault ≡ None = none_before (counted w) step early in
      let ran : mid ≡ step (counted w) = goes_on (counted w) step came in
      let ends : (step (counted w)).fault ≡ None = ap (λ (v : Walk). v.fault) (sym ran) ∙ early in
      absurd (no_fault ends)
    where
      no_fault : {X : Type 0} {x : X} → Some x ≡ None → ⊥
      no_fault e = cc

  -- what is gone over in a directory, as far as there is room
  listed_from : ℕ → List Dirent → Listed
  listed_from zero entries = []
  listed_from (suc room) entries = listed_in (listed A room) (in_name_order entries)

  listed-from : (room : ℕ) (id : List ℕ) → listed A room id ≡ listed_from room (dirents_at A id)
  unfolding listed listed_from
  listed-from zero id = refl
  listed-from (suc room) id = refl

  none_from : (room : ℕ) → listed_from room [] ≡ []
  unfolding listed_from
  none_from zero = refl
  none_from (suc room) = ap (listed_in (listed A room)) nothing_in_order

  pub nothing_listed : (room : ℕ) (id : List ℕ) → dirents_at A id ≡ [] → listed A room id ≡ []
  nothing_listed room id none = listed-from room id ∙ ap (listed_from room) none ∙ none_from room

  FromEntries : ℕ → Type 0
  FromEntries room = (path : PathV) (entries : List Dirent) (w : Walk) → (walk_entries blocks A (walk_below blocks A room) path (in_name_order entries) w).fault ≡ None
      → (walk_entries blocks A (walk_below blocks A room) path (in_name_order entries) w).paths ≡ w.paths + length (listed_from room entries)

  directory_counts : (room : ℕ) → FromEntries room → Counts room
  unfolding FromEntries
  directory_counts room all path id w none =
      by (is_nil id) none ∙ ap (λ xs. w.paths + length xs) (sym (listed-from room id))
    where
      nothing : (v : Walk) → v.paths ≡ v.paths + length (listed_from room [])
      nothing v = omega (arith, ap length (none_from room))

      read : (v : Walk) (r : Result FsObject TreeFault) → (then_read r (walk_found blocks A (walk_below blocks A room) true path id) v).fault ≡ None
          → (then_read r (walk_found blocks A (walk_below blocks A room) true path id) v).paths ≡ v.paths + length (listed_from room (entries_of r))
      read v (Ok (fs.File file)) none = nothing v
      read v (Ok (fs.Dir entries)) none = all path entries v none
      read v (Err fault) none = nothing v

      by : (n : Bool) → (if n then w else then_read (fs_at A id) (walk_found blocks A (walk_below blocks A room) true path id) (visited (fs_key id) w)).fault ≡ None
          → (if n then w else then_read (fs_at A id) (walk_found blocks A (walk_below blocks A room) true path id) (visited (fs_key id) w)).paths
          ≡ w.paths + length (listed_from room (if n then [] else entries_of (fs_at A id)))
      by true none = nothing w
      by false none = read (visited (fs_key id) w) (fs_at A id) none

  from_none : FromEntries zero
  unfolding FromEntries listed_from
  from_none path entries w none = no_entries_count path (in_name_order entries) w none

  from_some : (room : ℕ) → Counts room → FromEntries (suc room)
  unfolding FromEntries listed_from
  from_some room all path entries w none = entries_count room all path (in_name_order entries) w none

  pub counts_from : (room : ℕ) → Counts room
  counts_from zero = directory_counts zero from_none
  counts_from (suc room) = directory_counts (suc room) (from_some room (counts_from room))

  -- a directory without a fault counts the paths below it
  pub counts_below : (room : ℕ) (path : PathV) (id : List ℕ) (w : Walk) → (walk_object blocks A (walk_below blocks A room) true path id w).fault ≡ None
      → (walk_object blocks A (walk_below blocks A room) true path id w).paths ≡ w.paths + length (listed A room id)
  counts_below room = counts_from room

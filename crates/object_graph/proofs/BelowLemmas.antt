-- What lies below a directory whose traversal has no fault: each entry's own traversal has none, within what was visited.
-- The key lemmas are entry_walked, reaches, deep_enough and same_below.
use Rattle.std.proofs.Common.{◌≡◌, ℕ, zero, suc, ◌≤◌, Bool, true, false, if◌then◌else◌, List, [], ◌∷◌, ◌++◌, length, refl, sym, ap, ◌∙◌, subst, Option, None, Some, Result, Ok, Err, option_map, option_and_then, inl, inr, arith}
use Rattle.ids.specs.Key.{Objects}
use Rattle.ids.specs.declared.key.Key.{Key}
use Rattle.tree_model.specs.Path.{PathV}
use Rattle.fs_objects.specs.Mode.{is_directory_mode}
use Rattle.fs_objects.specs.declared.dirent.Dirent.{Dirent}
use Rattle.fs_objects.specs.declared.fs_object.FsObject.{FsObject}
use Rattle.fs_objects.specs.declared.fs_object.FsObject.TheVariants as fs
use Rattle.object_graph.specs.Objects.{fs_key, fs_at, is_nil, entries_of, entry_named, in_name_order, entry_of, directory_in, dirents_at, entry_in, entry_below}
use Rattle.object_graph.specs.Traversal.{Walk, visited, counted, then_walk, then_read, walk_entries, walk_found, walk_object, walk_below}
use Rattle.object_graph.specs.declared.entry.Entry.{Entry}
use Rattle.object_graph.specs.declared.fault.TreeFault.{TreeFault}
use Rattle.object_graph.proofs.KeyLemmas.{Within, within_then}
use Rattle.object_graph.proofs.SchemeLemmas.{Step, none_before, goes_on, along_entries, along_found, along_below}
use Rattle.object_graph.proofs.LocalityLemmas.{Follows, locality, within_next}
use Rattle.object_graph.proofs.EntryLemmas.{In, named_member, named_in_order}

-- the step of `w` without a fault, within these visits
pub record Ran (step : Step) (visits : List Key) : Type 0 where
  pub from : Walk
  pub none : (step from).fault ≡ None
  pub within : Within (step from).visits visits

ran_first : (step others : Step) → ((w : Walk) → Within w.visits (others w).visits) → (w : Walk)
    → (then_walk (then_walk (counted w) step) others).fault ≡ None → Ran step (then_walk (then_walk (counted w) step) others).visits
ran_first step others grows w none =
    let mid : Walk = then_walk (counted w) step in
    let early : mid.fault ≡ None = none_before mid others none in
    let came : (counted w).fault ≡ None = none_before (counted w) step early in
    let ran : mid ≡ step (counted w) = goes_on (counted w) step came in
    record {
      from = counted w;
      none = ap (λ (v : Walk). v.fault) (sym ran) ∙ early;
      within = subst (λ (v : Walk). Within v.visits (then_walk mid others).visits) ran (within_next mid others grows);
    }

ran_later : (mid : Walk) (others step : Step) → (then_walk mid others).fault ≡ None → ((others mid).fault ≡ None → Ran step (others mid).visits)
    → Ran step (then_walk mid others).visits
ran_later mid others step none more =
    let on : then_walk mid others ≡ others mid = goes_on mid others (none_before mid others none) in
    subst (λ (v : Walk). Ran step v.visits) (sym on) (more (ap (λ (v : Walk). v.fault) (sym on) ∙ none))

module _ (blocks : Bool) (A : Objects) where
  grows_below : (room : ℕ) (wants : Bool) (path : PathV) (id : List ℕ) (w : Walk) → Within w.visits (walk_below blocks A room wants path id w).visits
  grows_below room wants path id = (along_below blocks blocks A A (Follows A A) (locality A A blocks) room wants path id).grows

  grows_entries : (room : ℕ) (path : PathV) (entries : List Dirent) (w : Walk) → Within w.visits (walk_entries blocks A (walk_below blocks A room) path entries w).visits
  grows_entries room path entries =
      (along_entries blocks blocks A A (Follows A A) (locality A A blocks) (walk_below blocks A room) (walk_below blocks A room)
      (along_below blocks blocks A A (Follows A A) (locality A A blocks) room) path entries).grows

  pub grows_found : (room : ℕ) (wants : Bool) (path : PathV) (id : List ℕ) (object : FsObject) (w : Walk) → Within w.visits (walk_found blocks A (walk_below blocks A room) wants path id object w).visits
  grows_found room wants path id object =
      (along_found blocks blocks A A (Follows A A) (locality A A blocks) (walk_below blocks A room) (walk_below blocks A room)
      (along_below blocks blocks A A (Follows A A) (locality A A blocks) room) wants path id object).grows

  -- each of the entries that were gone over
  pub ran_entry : (room : ℕ) (path : PathV) (entries : List Dirent) (e : Dirent) → In e entries → (w : Walk) → (walk_entries blocks A (walk_below blocks A room) path entries w).fault ≡ None
      → Ran (walk_below blocks A room (is_directory_mode e.mode) (path ++ e.name ∷ []) e.id) (walk_entries blocks A (walk_below blocks A room) path entries w).visits
  unfolding In
  ran_entry room path [] e member w none = absurd member
  ran_entry room path (x ∷ entries) e member w none =
      let step : Step = walk_below blocks A room (is_directory_mode x.mode) (path ++ x.name ∷ []) x.id in
      let others : Step = walk_entries blocks A (walk_below blocks A room) path entries in
      elim member [
        | inl is ↦
            subst (λ (y : Dirent). Ran (walk_below blocks A room (is_directory_mode y.mode) (path ++ y.name ∷ []) y.id) (walk_entries blocks A (walk_below blocks A room) path (x ∷ entries) w).visits) (sym is)
            (ran_first step others (grows_entries room path entries) w none)
        | inr more ↦
            ran_later (then_walk (counted w) step) others (walk_below blocks A room (is_directory_mode e.mode) (path ++ e.name ∷ []) e.id) none
            (ran_entry room path entries e more (then_walk (counted w) step))
      ]

  -- each entry of a directory whose traversal has no fault
  pub entry_walked : (room : ℕ) (path : PathV) (id : List ℕ) (w : Walk) → (walk_object blocks A (walk_below blocks A room) true path id w).fault ≡ None
      → (name : List ℕ) (e : Dirent) → entry_named name (dirents_at A id) ≡ Some e
      → Ran (walk_below blocks A room (is_directory_mode e.mode) (path ++ e.name ∷ []) e.id) (walk_object blocks A (walk_below blocks A room) true path id w).visits
  entry_walked room path id w none name e = by (is_nil id) none
    where
      read : (v : Walk) (r : Result FsObject TreeFault) → (then_read r (walk_found blocks A (walk_below blocks A room) true path id) v).fault ≡ None
          → entry_named name (entries_of r) ≡ Some e
          → Ran (walk_below blocks A room (is_directory_mode e.mode) (path ++ e.name ∷ []) e.id) (then_read r (walk_found blocks A (walk_below blocks A room) true path id) v).visits
      read v (Ok (fs.Dir entries)) none is = ran_entry room path (in_name_order entries) e (named_member name (in_name_order entries) e (named_in_order name entries ∙ is)) v none
      read v (Ok (fs.File file)) none is = cc
      read v (Err fault) none is = cc

      by : (n : Bool) → (if n then w else then_read (fs_at A id) (walk_found blocks A (walk_below blocks A room) true path id) (visited (fs_key id) w)).fault ≡ None
          → entry_named name (if n then [] else entries_of (fs_at A id)) ≡ Some e
          → Ran (walk_below blocks A room (is_directory_mode e.mode) (path ++ e.name ∷ []) e.id) (if n then w else then_read (fs_at A id) (walk_found blocks A (walk_below blocks A room) true path id) (visited (fs_key id) w)).visits
      by true none is = cc
      by false none is = read (visited (fs_key id) w) (fs_at A id) none is

  -- an entry of a directory leaves room for a name
  pub some_room : (room : ℕ) (wants : Bool) (path : PathV) (id : List ℕ) (visits : List Key) → Ran (walk_below blocks A room wants path id) visits → (less : ℕ) × (room ≡ suc less)
  unfolding walk_below
  some_room zero wants path id visits ran = cc ran.none
  some_room (suc room) wants path id visits ran = (room, refl)

  ran_object : (room : ℕ) (wants : Bool) (path : PathV) (id : List ℕ) (visits : List Key) → Ran (walk_below blocks A (suc room) wants path id) visits
      → Ran (walk_object blocks A (walk_below blocks A room) wants path id) visits
  unfolding walk_below
  ran_object room wants path id visits ran = ran

-- ---- what stands at a path

-- an entry, and its own traversal
pub record Reached (blocks : Bool) (A : Objects) (x : Entry) (visits : List Key) : Type 0 where
  pub e : Dirent
  pub is : entry_of e ≡ x
  pub room : ℕ
  pub path : PathV
  pub ran : Ran (walk_object blocks A (walk_below blocks A room) (is_directory_mode e.mode) path e.id) visits

module _ (blocks : Bool) (A : Objects) where
  -- an entry of a complete directory, with the room that its own entries have
  pub entry_ran : (room : ℕ) (path : PathV) (id : List ℕ) (visits : List Key) → Ran (walk_object blocks A (walk_below blocks A room) true path id) visits
      → (name : List ℕ) (e : Dirent) → entry_named name (dirents_at A id) ≡ Some e
      → (less : ℕ) × (room ≡ suc less) × Ran (walk_object blocks A (walk_below blocks A less) (is_directory_mode e.mode) (path ++ e.name ∷ []) e.id) visits
  entry_ran room path id visits ran name e is =
      let walked = entry_walked blocks A room path id ran.from ran.none name e is in
      let entry = some_room blocks A room (is_directory_mode e.mode) (path ++ e.name ∷ []) e.id (walk_object blocks A (walk_below blocks A room) true path id ran.from).visits walked in
      let moved = subst (λ r. Ran (walk_below blocks A r (is_directory_mode e.mode) (path ++ e.name ∷ []) e.id) (walk_object blocks A (walk_below blocks A room) true path id ran.from).visits) entry.1 walked in
      let own = ran_object blocks A entry.0 (is_directory_mode e.mode) (path ++ e.name ∷ []) e.id (walk_object blocks A (walk_below blocks A room) true path id ran.from).visits moved in
      (entry.0, entry.1, record { from = own.from; none = own.none; within = within_then own.within ran.within })

  -- what stands at a path has at most as many names as there is room
  pub reaches : (q : PathV) (room : ℕ) (path : PathV) (id : List ℕ) (visits : List Key) → Ran (walk_object blocks A (walk_below blocks A room) true path id) visits
      → (x : Entry) → entry_below A q id ≡ Some x → Reached blocks A x visits × (length q ≤ room)
  reaches [] room path id visits ran x is = cc
  reaches (name ∷ []) room path id visits ran x is = by (entry_named name (dirents_at A id)) refl is
    where
      by : (o : Option Dirent) → entry_named name (dirents_at A id) ≡ o → option_map entry_of o ≡ Some x → Reached blocks A x visits × (length (name ∷ []) ≤ room)
      by None found is = cc
      by (Some e) found is =
          let here = entry_ran room path id visits ran name e found in
          let same : entry_of e ≡ x = cc in
          let fits : suc zero ≤ room = omega (arith, here.1) in
          (record { e = e; is = same; room = here.0; path = path ++ e.name ∷ []; ran = here.2 }, fits)
  reaches (name ∷ next ∷ q) room path id visits ran x is = by (entry_named name (dirents_at A id)) refl is (reaches (next ∷ q))
    where
      within : (e : Dirent) (b : Bool) → is_directory_mode e.mode ≡ b → (less : ℕ) → room ≡ suc less
          → Ran (walk_object blocks A (walk_below blocks A less) b (path ++ e.name ∷ []) e.id) visits
          → option_and_then (λ id. entry_in A (dirents_at A id) (next ∷ q)) (if b then Some e.id else None) ≡ Some x
          → ((room : ℕ) (path : PathV) (id : List ℕ) (visits : List Key) → Ran (walk_object blocks A (walk_below blocks A room) true path id) visits
          → (x : Entry) → entry_below A (next ∷ q) id ≡ Some x → Reached blocks A x visits × (length (next ∷ q) ≤ room))
          → Reached blocks A x visits × (length (name ∷ next ∷ q) ≤ room)
      within e true kind less fits own is more =
          let rest = more less (path ++ e.name ∷ []) e.id visits own x is in
          (rest.0, omega (arith, rest.1, fits))
      within e false kind less fits own is more = cc

      by : (o : Option Dirent) → entry_named name (dirents_at A id) ≡ o → option_and_then (λ id. entry_in A (dirents_at A id) (next ∷ q)) (directory_in o) ≡ Some x
          → ((room : ℕ) (path : PathV) (id : List ℕ) (visits : List Key) → Ran (walk_object blocks A (walk_below blocks A room) true path id) visits
          → (x : Entry) → entry_below A (next ∷ q) id ≡ Some x → Reached blocks A x visits × (length (next ∷ q) ≤ room))
          → Reached blocks A x visits × (length (name ∷ next ∷ q) ≤ room)
      by None found is more = cc
      by (Some e) found is more =
          let here = entry_ran room path id visits ran name e found in
          within e (is_directory_mode e.mode) refl here.0 here.1 here.2 is more

-- What is known stays right. The key lemmas are fits_nothing, right_directory, whole_file, learned, learned_file,
-- directory_agrees, file_agrees, fits_grown and known_stored.
use Rattle.std.proofs.Common.{◌≡◌, ◌⊎◌, ◌||◌, inl, inr, ℕ, zero, suc, Bool, true, false, cond, if◌then◌else◌, is_some, List, [], ◌∷◌, ◌++◌, refl, sym, ap, ap₂, ◌∙◌, subst, Option, None, Some, Result, Ok, Err}
use Rattle.std.specs.Prelude.{⊤}
use Rattle.std.specs.FinMap as map
use Rattle.std.specs.List.{list_any}
use Rattle.ids.specs.Key.{Objects, key_cmp}
use Rattle.ids.specs.declared.key.Key.{Key}
use Rattle.ids.proofs.KeyOrderLemmas.{key_cmp_total}
use Rattle.tree_model.specs.Path.{PathV}
use Rattle.fs_objects.specs.Mode.{is_directory_mode}
use Rattle.fs_objects.specs.declared.dirent.Dirent.{Dirent}
use Rattle.fs_objects.specs.declared.fs_object.FsObject.{FsObject}
use Rattle.fs_objects.specs.declared.fs_object.FsObject.TheVariants as fs
use Rattle.object_graph.specs.Listing.{Listed, prefixed, listed, listed_in}
use Rattle.object_graph.specs.Objects.{dirents_at, entries_of, entry_of, fs_at, fs_in, fs_key, in_name_order, is_nil, same_id}
use Rattle.object_graph.specs.Traversal.{IsComplete, Walk, distinct_from, is_in, start, then_read, visited, walk_below, walk_commit, walk_file_at, walk_found, walk_object, walk_root}
use Rattle.object_graph.specs.Unchanged.{AgreeOn, Keeps}
use Rattle.object_graph.specs.declared.fault.TreeFault.{TreeFault}
use Rattle.object_graph.proofs.BelowLemmas.{Ran, ran_entry}
use Rattle.object_graph.proofs.EntryLemmas.{In, nothing_in_order}
use Rattle.object_graph.proofs.KeyLemmas.{Within, same_key, same_key-true, within_then}
use Rattle.object_graph.proofs.LocalityLemmas.{Follows, local_commit, local_root, locality}
use Rattle.object_graph.proofs.SameBelowLemmas.{ran_root, same_dirents}
use Rattle.object_graph.proofs.SchemeLemmas.{along_below, along_object}
use Rattle.object_graph.proofs.StoredLemmas.{agree_kept, commit_stored, none_stored, object_stored, root_stored}
use Rattle.tree_walk.specs.Extent.{extent_in}
use Rattle.tree_walk.specs.KnownTrees.{AllRight, AreRight, Fits, right, IsKnownDirectory, IsNeededBy, KnownView, extent_known, file_known, nothing_known, or_kept, with_directory, with_file}
use Rattle.tree_walk.specs.Steps.{entries_step}
use Rattle.tree_walk.specs.declared.extent.Extent.{Extent}
use Rattle.tree_walk.proofs.StepsLemmas.{step_entries}

-- an id of its key
id_of : (a b : List ℕ) → fs_key a ≡ fs_key b → a ≡ b
id_of a b same = ap (λ (k : Key). k.id) same

-- no directory and no file
pub right_nothing : (objects : Objects) (directories : map.FinMap key_cmp Extent) (files : map.FinMap key_cmp ⊤) → directories ≡ map.empty → files ≡ map.empty → AreRight objects directories files
right_nothing objects directories files no_directory no_file = record {
  directories = λ id extent there. nothing (sym (ap (λ (m : map.FinMap key_cmp Extent). map.get m (fs_key id)) no_directory ∙ map.get-empty key_cmp (fs_key id)) ∙ there);
  files = λ id there. none id (sym (ap is_some (ap (λ (m : map.FinMap key_cmp ⊤). map.get m (fs_key id)) no_file ∙ map.get-empty key_cmp (fs_key id))) ∙ there);
}
  where
    nothing : {id : List ℕ} {extent : Extent} → None ≡ Some extent → IsKnownDirectory objects id extent
    nothing e = cc

    none : (id : List ℕ) → false ≡ true → (walk_file_at objects id start).fault ≡ None
    none id e = cc

-- what is known, taken apart
pub all_right : {objects : Objects} {known : KnownView} → Fits objects known → AllRight objects known
all_right (right all) = all

pub fits_nothing : (objects : Objects) → Fits objects nothing_known
fits_nothing objects = right (record {
  learned = right_nothing objects map.empty map.empty refl refl;
  kept = right_nothing objects map.empty map.empty refl refl;
  complete = λ commit listed. cc listed;
  needed = λ key there. none key (map.get (map.empty {X = Extent} {R = key_cmp}) key) (map.get (map.empty {X = ⊤} {R = key_cmp}) key) (map.get-empty key_cmp key) (map.get-empty key_cmp key) there;
})
  where
    none : (key : Key) (extent : Option Extent) (file : Option ⊤) → extent ≡ None → file ≡ None → (is_some extent || is_some file) ≡ true → IsNeededBy objects [] key
    none key (Some extent) file e f there = cc e
    none key None (Some file) e f there = cc f
    none key None None e f there = cc there

-- what is known of a key is right, whether it was learned or kept
pub right_directory : (objects : Objects) (known : KnownView) (id : List ℕ) (extent : Extent) → Fits objects known → extent_known known (fs_key id) ≡ Some extent → IsKnownDirectory objects id extent
right_directory objects known id extent fits there = by (map.get known.directories (fs_key id)) refl there
  where
    by : (o : Option Extent) → map.get known.directories (fs_key id) ≡ o → or_kept o (map.get known.kept_directories (fs_key id)) ≡ Some extent → IsKnownDirectory objects id extent
    by (Some learned) is e = (all_right fits).learned.directories id extent (is ∙ e)
    by None is e = (all_right fits).kept.directories id extent e

pub whole_file : (objects : Objects) (known : KnownView) (id : List ℕ) → Fits objects known → is_some (file_known known (fs_key id)) ≡ true → (walk_file_at objects id start).fault ≡ None
whole_file objects known id fits there = by (map.get known.files (fs_key id)) refl there
  where
    by : (o : Option ⊤) → map.get known.files (fs_key id) ≡ o → is_some (or_kept o (map.get known.kept_files (fs_key id))) ≡ true → (walk_file_at objects id start).fault ≡ None
    by (Some learned) is e = (all_right fits).learned.files id (ap is_some is)
    by None is e = (all_right fits).kept.files id e

pub learned : (objects : Objects) (old new : KnownView) (id : List ℕ) (extent : Extent) → Fits objects old → IsKnownDirectory objects id extent → (new ≡ old) ⊎ (new ≡ with_directory old id extent) → Fits objects new
learned objects old new id extent fits known changed = elim changed [
  | inl same ↦ subst (Fits objects) (sym same) fits
  | inr more ↦ subst (Fits objects) (sym more) (right (record { learned = record { directories = directories; files = (all_right fits).learned.files }; kept = (all_right fits).kept; complete = (all_right fits).complete; needed = (all_right fits).needed }))
]
  where
    directories : (other : List ℕ) (more : Extent) → map.get (map.insert old.directories (fs_key id) extent) (fs_key other) ≡ Some more → IsKnownDirectory objects other more
    directories other more there = by (same_key (fs_key other) (fs_key id)) refl (sym (map.get-insert key_cmp_total old.directories (fs_key id) extent (fs_key other)) ∙ there)
      where
        by : (b : Bool) → same_key (fs_key other) (fs_key id) ≡ b → cond b (Some extent) (map.get old.directories (fs_key other)) ≡ Some more → IsKnownDirectory objects other more
        by true same is =
            let one : extent ≡ more = cc in
            subst (IsKnownDirectory objects other) one (subst (λ i. IsKnownDirectory objects i extent) (sym (id_of other id (same_key-true (fs_key other) (fs_key id) same))) known)
        by false same is = (all_right fits).learned.directories other more is

pub learned_file : (objects : Objects) (old new : KnownView) (id : List ℕ) → Fits objects old → (walk_file_at objects id start).fault ≡ None → (new ≡ old) ⊎ (new ≡ with_file old id) → Fits objects new
learned_file objects old new id fits whole changed = elim changed [
  | inl same ↦ subst (Fits objects) (sym same) fits
  | inr more ↦ subst (Fits objects) (sym more) (right (record { learned = record { directories = (all_right fits).learned.directories; files = files }; kept = (all_right fits).kept; complete = (all_right fits).complete; needed = (all_right fits).needed }))
]
  where
    files : (other : List ℕ) → is_some (map.get (map.insert old.files (fs_key id) tt) (fs_key other)) ≡ true → (walk_file_at objects other start).fault ≡ None
    files other there = by (same_key (fs_key other) (fs_key id)) refl (sym (ap is_some (map.get-insert key_cmp_total old.files (fs_key id) tt (fs_key other))) ∙ there)
      where
        by : (b : Bool) → same_key (fs_key other) (fs_key id) ≡ b → is_some (cond b (Some tt) (map.get old.files (fs_key other))) ≡ true → (walk_file_at objects other start).fault ≡ None
        by true same is = subst (λ i. (walk_file_at objects i start).fault ≡ None) (sym (id_of other id (same_key-true (fs_key other) (fs_key id) same))) whole
        by false same is = (all_right fits).learned.files other is

-- ---- as objects are added

-- what lies below a directory is listed the same where the objects agree on what its traversal visits
module _ (A B : Objects) (visits : List Key) (agree : AgreeOn visits A B) where
  abbrev SameList : ℕ → Type 0
  SameList room = (path : PathV) (id : List ℕ) → Ran (walk_object true A (walk_below true A room) true path id) visits → listed B room id ≡ listed A room id

  entries_same : (room : ℕ) → SameList room → (path : PathV) (entries : List Dirent)
      → ((e : Dirent) → In e entries → Ran (walk_below true A (suc room) (is_directory_mode e.mode) (path ++ e.name ∷ []) e.id) visits)
      → listed_in (listed B room) entries ≡ listed_in (listed A room) entries
  unfolding In walk_below
  entries_same room all path [] ran = refl
  entries_same room all path (e ∷ entries) ran =
      ap₂ (λ (xs ys : Listed). ((e.name ∷ [], entry_of e) ∷ prefixed e.name xs) ++ ys) (by (is_directory_mode e.mode) (ran e (inl refl)))
      (entries_same room all path entries (λ x member. ran x (inr member)))
    where
      by : (wants : Bool) → Ran (walk_object true A (walk_below true A room) wants (path ++ e.name ∷ []) e.id) visits
          → (if wants then listed B room e.id else []) ≡ (if wants then listed A room e.id else [])
      by true own = all (path ++ e.name ∷ []) e.id own
      by false own = refl

  -- the entries of a directory that was gone over
  entries_ran : (room : ℕ) (path : PathV) (id : List ℕ) → Ran (walk_object true A (walk_below true A (suc room)) true path id) visits
      → (e : Dirent) → In e (in_name_order (dirents_at A id)) → Ran (walk_below true A (suc room) (is_directory_mode e.mode) (path ++ e.name ∷ []) e.id) visits
  unfolding In
  entries_ran room path id ran e member = by (is_nil id) refl (fs_at A id) refl
    where
      Own : Type 0
      Own = Ran (walk_below true A (suc room) (is_directory_mode e.mode) (path ++ e.name ∷ []) e.id) visits

      walk : Walk
      walk = walk_object true A (walk_below true A (suc room)) true path id ran.from

      nothing : dirents_at A id ≡ [] → Own
      nothing none = absurd (subst (In e) (ap in_name_order none ∙ nothing_in_order) member)

      by : (n : Bool) → is_nil id ≡ n → (r : Result FsObject TreeFault) → fs_at A id ≡ r → Own
      by true is r read = nothing (ap (λ (n : Bool). if n then [] else entries_of (fs_at A id)) is)
      by false is (Err fault) read = nothing (ap₂ (λ (n : Bool) (r : Result FsObject TreeFault). if n then [] else entries_of r) is read)
      by false is (Ok (fs.File file)) read = nothing (ap₂ (λ (n : Bool) (r : Result FsObject TreeFault). if n then [] else entries_of r) is read)
      by false is (Ok (fs.Dir entries)) read =
          let on : walk ≡ entries_step true A (suc room) path (in_name_order entries) (visited (fs_key id) ran.from) = step_entries true A (suc room) path id entries (in_name_order entries) ran.from is read refl in
          let there : In e (in_name_order entries) = subst (λ es. In e (in_name_order es)) (ap₂ (λ (n : Bool) (r : Result FsObject TreeFault). if n then [] else entries_of r) is read) member in
          let own = ran_entry true A (suc room) path (in_name_order entries) e there (visited (fs_key id) ran.from) (ap (λ (w : Walk). w.fault) (sym on) ∙ ran.none) in
          record { from = own.from; none = own.none; within = within_then own.within (subst (λ (w : Walk). Within w.visits visits) on ran.within) }

  same_list : (room : ℕ) → SameList room
  unfolding listed
  same_list zero path id ran = refl
  same_list (suc room) path id ran =
      ap (λ es. listed_in (listed B room) (in_name_order es)) (same_dirents true A B (suc room) path id visits ran agree)
      ∙ entries_same room (same_list room) path (in_name_order (dirents_at A id)) (entries_ran room path id ran)

pub directory_agrees : (A B : Objects) (id : List ℕ) (extent : Extent) → AgreeOn (walk_root true A id start).visits A B → IsKnownDirectory A id extent → IsKnownDirectory B id extent
directory_agrees A B id extent agree known = record {
  complete = ap (λ (w : Walk). w.fault) (local_root A B true id start agree) ∙ known.complete;
  is = known.is ∙ ap extent_in (sym (same_list A B (walk_root true A id start).visits agree 100 [] id (ran_root true A id start known.complete)));
}

pub file_agrees : (A B : Objects) (id : List ℕ) → AgreeOn (walk_file_at A id start).visits A B → (walk_file_at A id start).fault ≡ None → (walk_file_at B id start).fault ≡ None
file_agrees A B id agree none =
    let same : walk_file_at B id start ≡ walk_file_at A id start =
    (along_object true true A B (Follows A B) (locality A B true) (walk_below true A 100) (walk_below true B 100)
    (along_below true true A B (Follows A B) (locality A B true) 100) false [] id).same start agree in
    ap (λ (w : Walk). w.fault) same ∙ none

right_grown : (A B : Objects) (directories : map.FinMap key_cmp Extent) (files : map.FinMap key_cmp ⊤) → Keeps A B → AreRight A directories files → AreRight B directories files
right_grown A B directories files keeps are = record {
  directories = λ id extent there.
      let known = are.directories id extent there in
      directory_agrees A B id extent (agree_kept A B (walk_root true A id start).visits keeps (root_stored A true id start (none_stored A) known.complete)) known;
  files = λ id there.
      let none = are.files id there in
      file_agrees A B id (agree_kept A B (walk_file_at A id start).visits keeps (object_stored A true 100 false [] id start (none_stored A) none)) none;
}

-- what one of some commits needs, it needs where the objects agree on what their traversals visit
pub needed_agrees : (A B : Objects) (commits : List (List ℕ)) (key : Key) → ((commit : List ℕ) → list_any (same_id commit) commits ≡ true → AgreeOn (walk_commit A commit).visits A B)
    → IsNeededBy A commits key → IsNeededBy B commits key
needed_agrees A B commits key agree needed = record {
  commit = needed.commit;
  is = needed.is;
  there = ap (λ (w : Walk). is_in (distinct_from [] w.visits) key) (local_commit A B needed.commit (agree needed.commit needed.is)) ∙ needed.there;
}

pub complete_agrees : (A B : Objects) (commit : List ℕ) → AgreeOn (walk_commit A commit).visits A B → IsComplete A commit → IsComplete B commit
complete_agrees A B commit agree complete = ap (λ (w : Walk). w.fault) (local_commit A B commit agree) ∙ complete

pub fits_grown : (A B : Objects) (known : KnownView) → Keeps A B → Fits A known → Fits B known
fits_grown A B known keeps fits = right (record {
  learned = right_grown A B known.directories known.files keeps (all_right fits).learned;
  kept = right_grown A B known.kept_directories known.kept_files keeps (all_right fits).kept;
  complete = λ commit listed. complete_agrees A B commit (agree commit listed) ((all_right fits).complete commit listed);
  needed = λ key there. needed_agrees A B known.commits key agree ((all_right fits).needed key there);
})
  where
    agree : (commit : List ℕ) → list_any (same_id commit) known.commits ≡ true → AgreeOn (walk_commit A commit).visits A B
    agree commit listed = agree_kept A B (walk_commit A commit).visits keeps (commit_stored A commit ((all_right fits).complete commit listed))

-- ---- what is known is stored

-- an object whose traversal has no fault
whole_stored : (objects : Objects) (wants : Bool) (id : List ℕ) → is_nil id ≡ false → (walk_object true objects (walk_below true objects 100) wants [] id start).fault ≡ None
    → is_some (map.get objects (fs_key id)) ≡ true
whole_stored objects wants id other none = by (map.get objects (fs_key id)) refl
  where
    by : (o : Option (List ℕ)) → map.get objects (fs_key id) ≡ o → is_some (map.get objects (fs_key id)) ≡ true
    by None is =
        let e =
        sym (ap₂ (λ (n : Bool) (r : Result FsObject TreeFault). (if n then start else then_read r (walk_found true objects (walk_below true objects 100) wants [] id) (visited (fs_key id) start)).fault)
        other (ap (fs_in (fs_key id)) is)) ∙ none in cc e
    by (Some bytes) is = ap is_some is

pub known_stored : (objects : Objects) (known : KnownView) (id : List ℕ) (extent : Extent) → Fits objects known → is_nil id ≡ false
    → extent_known known (fs_key id) ≡ Some extent → is_some (map.get objects (fs_key id)) ≡ true
known_stored objects known id extent fits other there = whole_stored objects true id other (right_directory objects known id extent fits there).complete

pub known_file_stored : (objects : Objects) (known : KnownView) (id : List ℕ) → Fits objects known → is_nil id ≡ false
    → is_some (file_known known (fs_key id)) ≡ true → is_some (map.get objects (fs_key id)) ≡ true
known_file_stored objects known id fits other there = whole_stored objects false id other (whole_file objects known id fits there)

-- Steps of a traversal from any walk without a fault, with the blocks of files or without. The key lemmas are step_many,
-- step_deep, step_object, step_unread, step_no_directory, step_entries and those of Stands.
use Rattle.std.proofs.Common.{◌≡◌, ◌≤◌, ◌<◌, ◌+◌, ℕ, zero, suc, Bool, true, false, if◌then◌else◌, List, [], ◌∷◌, ◌++◌, length, refl, sym, ap, ap₂, ◌∙◌, subst, Option, None, Some, Result, Ok, Err, arith, get_or, drop, drop-cons, add-one}
use Rattle.ids.specs.Key.{Objects}
use Rattle.tree_model.specs.Path.{PathV}
use Rattle.fs_objects.specs.Mode.{is_directory_mode}
use Rattle.fs_objects.specs.declared.dirent.Dirent.{Dirent}
use Rattle.fs_objects.specs.declared.file_object.FileObject.{FileObject}
use Rattle.fs_objects.specs.declared.fs_object.FsObject.{FsObject}
use Rattle.fs_objects.specs.declared.fs_object.FsObject.TheVariants as fs
use Rattle.commit_objects.specs.declared.commit.Commit.{Commit}
use Rattle.object_graph.specs.Objects.{commit_at, commit_key, fs_at, fs_key, in_name_order, is_nil}
use Rattle.object_graph.specs.Traversal.{Walk, counted, failed, start, then_read, then_walk, visited, walk_below, walk_commit, walk_found, walk_object, walk_root}
use Rattle.object_graph.specs.declared.fault.TreeFault.{TreeFault}
use Rattle.object_graph.specs.declared.fault.TreeFault.TheVariants.{TooDeep, TooMany, WrongKind}
use Rattle.object_graph.proofs.LimitLemmas.{counted_fits, counted_over}
use Rattle.object_graph.proofs.SchemeLemmas.{Step, goes_on, stands_still}
use Rattle.tree_walk.specs.Reading.{AnswersRead, IsDue}
use Rattle.tree_walk.specs.Steps.{HasCounted, directory_step, entries_step, entry_step}
use Rattle.tree_walk.specs.declared.fault.WalkFault.{WalkFault}
use Rattle.tree_walk.specs.declared.fault.WalkFault.TheVariants as walk

-- ---- faults

-- a fault that is due of a step is due of what begins with it
pub due_of : (objects : Objects) (due whole : Option TreeFault) → ((fault : TreeFault) → due ≡ Some fault → whole ≡ Some fault) → (fault : WalkFault) → IsDue objects due fault → IsDue objects whole fault
due_of objects due whole same (walk.Incomplete key) is = same _ is
due_of objects due whole same (walk.Unreadable key) is = same _ is
due_of objects due whole same (walk.WrongKind id) is = same _ is
due_of objects due whole same (walk.WrongSize id) is = same _ is
due_of objects due whole same (walk.TooDeep path) is = same _ is
due_of objects due whole same (walk.TooMany paths) is = same _ is
due_of objects due whole same (walk.Store fault) is = is

pub due_first : (objects : Objects) (w : Walk) (next : Step) (fault : WalkFault) → IsDue objects w.fault fault → IsDue objects (then_walk w next).fault fault
due_first objects w next fault is = due_of objects w.fault (then_walk w next).fault (λ first e. ap (λ (v : Walk). v.fault) (stands_still w next first e) ∙ e) fault is

-- a fault that may come where none is due may come at any place
pub due_anywhere : (objects : Objects) (whole : Option TreeFault) (fault : WalkFault) → IsDue objects None fault → IsDue objects whole fault
due_anywhere objects whole fault is = due_of objects None whole (λ due at. nothing at) fault is
  where
    nothing : {x : TreeFault} → None ≡ Some x → whole ≡ Some x
    nothing e = cc

-- what keeps an object from being read
pub due_unread : {T : Type 0} (objects : Objects) (whole : Option TreeFault) (r : Result T TreeFault) → ((due : TreeFault) → r ≡ Err due → whole ≡ Some due)
    → (fault : WalkFault) → AnswersRead objects r (Err fault) → IsDue objects whole fault
due_unread objects whole (Ok value) same fault is = due_anywhere objects whole fault is
due_unread objects whole (Err due) same fault is = due_of objects (Some due) whole (λ other at. same due refl ∙ at) fault is

-- ---- one entry more

-- one path more was counted
abbrev pub one_more : Walk → Walk
one_more w = record w { paths = w.paths + 1 }

pub one_more_counted : (w : Walk) (paths more : ℕ) → HasCounted w paths → more ≡ paths + 1 → HasCounted (one_more w) more
one_more_counted w paths more has is = record { none = has.none; count = ap (λ n. n + 1) has.count ∙ sym is }

module _ (blocks : Bool) (objects : Objects) (room : ℕ) (path : PathV) where
  pub step_many : (e : Dirent) (w : Walk) → 1000000 ≤ w.paths → (entry_step blocks objects room path e w).fault ≡ Some (TooMany (w.paths + 1))
  step_many e w many =
      let over : counted w ≡ failed (TooMany (w.paths + 1)) (one_more w) = counted_over w (omega arith) in
      let at : (counted w).fault ≡ Some (TooMany (w.paths + 1)) = ap (λ (v : Walk). v.fault) over in
      ap (λ (v : Walk). v.fault) (stands_still (counted w) (walk_below blocks objects room (is_directory_mode e.mode) (path ++ e.name ∷ []) e.id) (TooMany (w.paths + 1)) at) ∙ at

  step_begins : (e : Dirent) (w : Walk) → w.fault ≡ None → w.paths < 1000000
      → entry_step blocks objects room path e w ≡ walk_below blocks objects room (is_directory_mode e.mode) (path ++ e.name ∷ []) e.id (one_more w)
  step_begins e w none few =
      let step : Step = walk_below blocks objects room (is_directory_mode e.mode) (path ++ e.name ∷ []) e.id in
      ap (λ (v : Walk). then_walk v step) (counted_fits w (omega arith)) ∙ goes_on (one_more w) step none

  pub step_deep : (e : Dirent) (w : Walk) → room ≡ zero → w.fault ≡ None → w.paths < 1000000 → (entry_step blocks objects room path e w).fault ≡ Some (TooDeep (path ++ e.name ∷ []))
  unfolding walk_below
  step_deep e w no_room none few =
      ap (λ (v : Walk). v.fault) (step_begins e w none few)
      ∙ ap (λ r. (walk_below blocks objects r (is_directory_mode e.mode) (path ++ e.name ∷ []) e.id (one_more w)).fault) no_room

  pub step_object : (less : ℕ) (e : Dirent) (w : Walk) (wants : Bool) → room ≡ suc less → is_directory_mode e.mode ≡ wants → w.fault ≡ None → w.paths < 1000000
      → entry_step blocks objects room path e w ≡ walk_object blocks objects (walk_below blocks objects less) wants (path ++ e.name ∷ []) e.id (one_more w)
  unfolding walk_below
  step_object less e w wants fits is none few =
      step_begins e w none few
      ∙ ap₂ (λ (r : ℕ) (b : Bool). walk_below blocks objects r b (path ++ e.name ∷ []) e.id (one_more w)) fits is

  -- ---- the object of a directory

  -- it can't be read
  pub step_unread : (id : List ℕ) (w : Walk) (fault : WalkFault) → is_nil id ≡ false → AnswersRead objects (fs_at objects id) (Err fault) → IsDue objects (directory_step blocks objects room path id w).fault fault
  step_unread id w fault other is =
      due_unread objects (directory_step blocks objects room path id w).fault (fs_at objects id)
      (λ due at. ap₂ (λ (n : Bool) (r : Result FsObject TreeFault).
      (if n then w else then_read r (walk_found blocks objects (walk_below blocks objects room) true path id) (visited (fs_key id) w)).fault) other at) fault is

  -- it is a file's
  pub step_no_directory : (id : List ℕ) (file : FileObject) (w : Walk) → is_nil id ≡ false → fs_at objects id ≡ Ok (fs.File file) → (directory_step blocks objects room path id w).fault ≡ Some (WrongKind id)
  step_no_directory id file w other read =
      ap₂ (λ (n : Bool) (r : Result FsObject TreeFault).
      (if n then w else then_read r (walk_found blocks objects (walk_below blocks objects room) true path id) (visited (fs_key id) w)).fault) other read

  -- it is visited, and then its entries are gone over
  pub step_entries : (id : List ℕ) (entries sorted : List Dirent) (w : Walk) → is_nil id ≡ false → fs_at objects id ≡ Ok (fs.Dir entries) → sorted ≡ in_name_order entries
      → directory_step blocks objects room path id w ≡ entries_step blocks objects room path sorted (visited (fs_key id) w)
  step_entries id entries sorted w other read same =
      ap₂ (λ (n : Bool) (r : Result FsObject TreeFault).
      if n then w else then_read r (walk_found blocks objects (walk_below blocks objects room) true path id) (visited (fs_key id) w)) other read
      ∙ ap (λ es. entries_step blocks objects room path es (visited (fs_key id) w)) (sym same)

  -- after an entry without a fault the others are gone over
  pub step_on : (e : Dirent) (entries : List Dirent) (w : Walk) → (entry_step blocks objects room path e w).fault ≡ None
      → entries_step blocks objects room path (e ∷ entries) w ≡ entries_step blocks objects room path entries (entry_step blocks objects room path e w)
  step_on e entries w none = goes_on (entry_step blocks objects room path e w) (entries_step blocks objects room path entries) none

  -- an entry's fault is that of the entries
  pub step_stops : (e : Dirent) (entries : List Dirent) (w : Walk) (fault : WalkFault) → IsDue objects (entry_step blocks objects room path e w).fault fault
      → IsDue objects (entries_step blocks objects room path (e ∷ entries) w).fault fault
  step_stops e entries w fault is = due_first objects (entry_step blocks objects room path e w) (entries_step blocks objects room path entries) fault is

-- ---- entries, one after another

-- a traversal that counted so many paths, from which the rest comes to where all come to from `w`
pub record Stands (blocks : Bool) (objects : Objects) (room : ℕ) (path : PathV) (all rest : List Dirent) (w : Walk) (paths : ℕ) : Type 0 where
  pub from : Walk
  pub has : HasCounted from paths
  pub same : entries_step blocks objects room path rest from ≡ entries_step blocks objects room path all w

module _ (blocks : Bool) (objects : Objects) (room : ℕ) (path : PathV) (all : List Dirent) where
  pub stands_begin : (w : Walk) (paths : ℕ) → HasCounted w paths → Stands blocks objects room path all all w paths
  stands_begin w paths has = record { from = w; has = has; same = refl }

  pub stands_next : (rest : List Dirent) (e : Dirent) (w : Walk) (paths more : ℕ) (before : Stands blocks objects room path all (e ∷ rest) w paths)
      → HasCounted (entry_step blocks objects room path e before.from) more → Stands blocks objects room path all rest w more
  stands_next rest e w paths more before has = record {
    from = entry_step blocks objects room path e before.from;
    has = has;
    same = sym (step_on blocks objects room path e rest before.from has.none) ∙ before.same;
  }

  pub stands_stop : (rest : List Dirent) (e : Dirent) (w : Walk) (paths : ℕ) (fault : WalkFault) (before : Stands blocks objects room path all (e ∷ rest) w paths)
      → IsDue objects (entry_step blocks objects room path e before.from).fault fault → IsDue objects (entries_step blocks objects room path all w).fault fault
  stands_stop rest e w paths fault before is = subst (λ (v : Walk). IsDue objects v.fault fault) before.same (step_stops blocks objects room path e rest before.from fault is)

  pub stands_end : (w : Walk) (paths : ℕ) → Stands blocks objects room path all [] w paths → HasCounted (entries_step blocks objects room path all w) paths
  stands_end w paths before = subst (λ (v : Walk). HasCounted v paths) before.same before.has

-- ---- a commit

pub step_commit : (objects : Objects) (id : List ℕ) (commit : Commit) → commit_at objects id ≡ Ok commit
    → walk_commit objects id ≡ directory_step true objects 100 [] commit.root (visited (commit_key id) start)
unfolding walk_commit
step_commit objects id commit read = ap (λ (r : Result Commit TreeFault). then_read r (λ commit. walk_root true objects commit.root) (visited (commit_key id) start)) read

-- the next one of a list that is gone over
pub next_entry : {X : Type 0} (entries : List X) (i : ℕ) (e : X) → i < length entries → e ≡ get_or entries i e → drop i entries ≡ e ∷ drop (i + 1) entries
next_entry entries i e within is = rw (add-one, drop-cons entries i e) (ap (λ x. x ∷ drop (suc i) entries) (sym is))

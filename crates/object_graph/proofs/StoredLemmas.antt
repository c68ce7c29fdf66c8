-- What a traversal without a fault visits is stored; and an Incomplete is the last visit, and isn't stored. The key lemmas
-- are root_stored, commit_stored, commit_tells and agree_kept.
use Rattle.std.proofs.Common.{◌≡◌, ℕ, ◌+◌, ◌==◌, Bool, true, false, if◌then◌else◌, is_some, nat_lt, List, [], ◌∷◌, ◌++◌, length, refl, sym, ap, ◌∙◌, subst, Option, None, Some, Result, Ok, Err, inl, inr}
use Rattle.std.specs.FinMap as map
use Rattle.ids.specs.Key.{Objects}
use Rattle.ids.specs.declared.key.Key.{Key}
use Rattle.tree_model.specs.Path.{PathV}
use Rattle.tree_model.specs.declared.limits.TheConstants.{MAX_PATHS}
use Rattle.fs_objects.specs.FsObject.{fs_of}
use Rattle.fs_objects.specs.declared.fault.BadFs.{BadFs}
use Rattle.fs_objects.specs.declared.file_object.FileObject.{FileObject}
use Rattle.fs_objects.specs.declared.fs_object.FsObject.{FsObject}
use Rattle.commit_objects.specs.Commit.{commit_of}
use Rattle.commit_objects.specs.declared.commit.Commit.{Commit}
use Rattle.commit_objects.specs.declared.fault.BadCommit.{BadCommit}
use Rattle.object_graph.specs.Objects.{fs_key, block_key, commit_key, fs_at, fs_in, as_read, commit_in, of_name, same_id, joined}
use Rattle.object_graph.specs.Traversal.{Walk, start, visited, failed, counted, next_by, then_walk, then_read, walk_block, walk_blocks, sized, walk_file, walk_object, walk_below, walk_root, walk_commit, is_in, IsComplete}
use Rattle.object_graph.specs.Unchanged.{AgreeOn, Keeps}
use Rattle.object_graph.specs.declared.fault.TreeFault.{TreeFault}
use Rattle.object_graph.specs.declared.fault.TreeFault.TheVariants.{Incomplete, Unreadable, WrongSize, TooMany}
use Rattle.object_graph.proofs.KeyLemmas.{in_pushed}
use Rattle.object_graph.proofs.SchemeLemmas.{Step, Scheme, along_root, along_object, along_below, none_before, goes_on}

-- each of the keys is stored
pub record AllStored (A : Objects) (keys : List Key) : Type 0 where
  pub stored : (key : Key) → is_in keys key ≡ true → is_some (map.get A key) ≡ true

pub none_stored : (A : Objects) → AllStored A []
none_stored A = record { stored = λ key e. cc }

pub stored_pushed : (A : Objects) (keys : List Key) (last : Key) → AllStored A keys → is_some (map.get A last) ≡ true → AllStored A (keys ++ last ∷ [])
stored_pushed A keys last all here = record { stored = λ key e. elim (in_pushed keys last key e) [ inl old ↦ all.stored key old | inr is ↦ subst (λ k. is_some (map.get A k) ≡ true) (sym is) here ] }

-- a step that has no fault visits what is stored
pub record Sure (A : Objects) (f : Step) : Type 0 where
  pub sure : (w : Walk) → AllStored A w.visits → (f w).fault ≡ None → AllStored A (f w).visits

-- where the last visit isn't stored, the fault is that the key is incomplete, and no other fault is such a one
pub record IsTold (A : Objects) (w : Walk) (key : Key) : Type 0 where
  pub before : List Key
  pub last : w.visits ≡ before ++ key ∷ []
  pub absent : map.get A key ≡ None

pub record Tells (A : Objects) (f : Step) : Type 0 where
  pub tells : (w : Walk) → w.fault ≡ None → (key : Key) → (f w).fault ≡ Some (Incomplete key) → IsTold A (f w) key

pub nothing_told : {A : Objects} {w : Walk} {key : Key} → w.fault ≡ None → w.fault ≡ Some (Incomplete key) → IsTold A w key
nothing_told none is = cc

counted_with : Walk → Bool → Walk
counted_with w b = if b then failed (TooMany (w.paths + 1)) (record w { paths = w.paths + 1 }) else record w { paths = w.paths + 1 }

module _ (A : Objects) where
  -- ---- sure

  sure_after : (f next : Step) → Sure A f → Sure A next → Sure A (λ w. then_walk (f w) next)
  sure_after f next first second = record { sure = sure }
    where
      sure : (w : Walk) → AllStored A w.visits → (then_walk (f w) next).fault ≡ None → AllStored A (then_walk (f w) next).visits
      sure w all none =
          let early = none_before (f w) next none in
          let on = goes_on (f w) next early in
          let part = first.sure w all early in
          let late : (next (f w)).fault ≡ None = ap (λ (v : Walk). v.fault) (sym on) ∙ none in
          subst (λ (v : Walk). AllStored A v.visits) (sym on) (second.sure (f w) part late)

  sure_counted : Sure A counted
  unfolding counted_with
  sure_counted = record { sure = λ w. by w (nat_lt MAX_PATHS (w.paths + 1)) }
    where
      by : (w : Walk) (b : Bool) → AllStored A w.visits → (counted_with w b).fault ≡ None → AllStored A (counted_with w b).visits
      by w true all none = all
      by w false all none = all

  sure_block : (blocks : Bool) (id : List ℕ) → Sure A (walk_block blocks A id)
  sure_block blocks id = record { sure = λ w. by w (is_some (map.get A (block_key id))) refl }
    where
      by : (w : Walk) (b : Bool) → is_some (map.get A (block_key id)) ≡ b → AllStored A w.visits
          → (if b then visited (block_key id) w else failed (Incomplete (block_key id)) (visited (block_key id) w)).fault ≡ None
          → AllStored A (if b then visited (block_key id) w else failed (Incomplete (block_key id)) (visited (block_key id) w)).visits
      by w true here all none = stored_pushed A w.visits (block_key id) all here
      by w false here all none = cc

  sure_blocks : (blocks : Bool) (ids : List (List ℕ)) → Sure A (walk_blocks blocks A ids)
  sure_blocks blocks [] = record { sure = λ w all none. all }
  sure_blocks blocks (id ∷ ids) = sure_after (walk_block blocks A id) (walk_blocks blocks A ids) (sure_block blocks id) (sure_blocks blocks ids)

  sure_sized : (blocks : Bool) (id : List ℕ) (file : FileObject) → Sure A (sized blocks A id file)
  sure_sized blocks id file = record { sure = λ w. by w (file.size == length (joined A file.blocks)) }
    where
      by : (w : Walk) (b : Bool) → AllStored A w.visits → (if b then w else failed (WrongSize id) w).fault ≡ None → AllStored A (if b then w else failed (WrongSize id) w).visits
      by w true all none = all
      by w false all none = all

  sure_file : (blocks : Bool) (id : List ℕ) (file : FileObject) → Sure A (walk_file blocks A id file)
  sure_file true id file = sure_after (walk_blocks true A file.blocks) (sized true A id file) (sure_blocks true file.blocks) (sure_sized true id file)
  sure_file false id file = record { sure = λ w all none. all }

  sure_object : (id : List ℕ) (F : FsObject → Step) → ((object : FsObject) → Sure A (F object))
      → Sure A (λ w. then_read (fs_at A id) F (visited (fs_key id) w))
  sure_object id F h = record { sure = λ w. by w (map.get A (fs_key id)) refl }
    where
      read : (w : Walk) (r : Result FsObject TreeFault) → AllStored A w.visits → (then_read r F w).fault ≡ None → AllStored A (then_read r F w).visits
      read w (Ok object) all none = (h object).sure w all none
      read w (Err fault) all none = all

      by : (w : Walk) (o : Option (List ℕ)) → map.get A (fs_key id) ≡ o → AllStored A w.visits
          → (then_read (fs_in (fs_key id) o) F (visited (fs_key id) w)).fault ≡ None → AllStored A (then_read (fs_in (fs_key id) o) F (visited (fs_key id) w)).visits
      by w None here all none = cc
      by w (Some bytes) here all none = read (visited (fs_key id) w) (as_read (fs_key id) (fs_of bytes)) (stored_pushed A w.visits (fs_key id) all (ap is_some here)) none

  pub sureness : (blocks : Bool) → Scheme blocks blocks A A (λ f g. Sure A f)
  sureness blocks = record {
    nothing = record { sure = λ w all none. all };
    counts = sure_counted;
    deep = λ path. record { sure = λ w all none. all };
    kind = λ id. record { sure = λ w all none. all };
    after = λ f g next other first second. sure_after f next first second;
    file = λ id file. sure_file blocks id file;
    object = λ id F G h. sure_object id F h;
  }

  pub object_stored : (blocks : Bool) (room : ℕ) (wants : Bool) (path : PathV) (id : List ℕ) (w : Walk) → AllStored A w.visits
      → (walk_object blocks A (walk_below blocks A room) wants path id w).fault ≡ None → AllStored A (walk_object blocks A (walk_below blocks A room) wants path id w).visits
  object_stored blocks room wants path id =
      (along_object blocks blocks A A (λ f g. Sure A f) (sureness blocks) (walk_below blocks A room) (walk_below blocks A room)
      (along_below blocks blocks A A (λ f g. Sure A f) (sureness blocks) room) wants path id).sure

  pub root_stored : (blocks : Bool) (id : List ℕ) (w : Walk) → AllStored A w.visits → (walk_root blocks A id w).fault ≡ None → AllStored A (walk_root blocks A id w).visits
  root_stored blocks id = (along_root blocks blocks A A (λ f g. Sure A f) (sureness blocks) id).sure

  pub commit_stored : (id : List ℕ) → IsComplete A id → AllStored A (walk_commit A id).visits
  unfolding walk_commit
  commit_stored id = by (map.get A (commit_key id)) refl
    where
      step : Commit → Step
      step commit = walk_root true A commit.root

      read : (r : Result Commit TreeFault) → AllStored A (visited (commit_key id) start).visits → (then_read r (λ commit. walk_root true A commit.root) (visited (commit_key id) start)).fault ≡ None
          → AllStored A (then_read r (λ commit. walk_root true A commit.root) (visited (commit_key id) start)).visits
      read (Ok commit) all none = root_stored true commit.root (visited (commit_key id) start) all none
      read (Err fault) all none = all

      by : (o : Option (List ℕ)) → map.get A (commit_key id) ≡ o
          → (then_read (commit_in id o) (λ commit. walk_root true A commit.root) (visited (commit_key id) start)).fault ≡ None
          → AllStored A (then_read (commit_in id o) (λ commit. walk_root true A commit.root) (visited (commit_key id) start)).visits
      by None here none = cc
      by (Some bytes) here none = read (of_name id (commit_of bytes)) (stored_pushed A [] (commit_key id) (none_stored A) (ap is_some here)) none

  -- ---- told

  tells_after : (f next : Step) → Tells A f → Tells A next → Tells A (λ w. then_walk (f w) next)
  tells_after f next first second = record { tells = λ w none. by w none (f w).fault refl }
    where
      by : (w : Walk) → w.fault ≡ None → (o : Option TreeFault) → (f w).fault ≡ o → (key : Key) → (next_by o next (f w)).fault ≡ Some (Incomplete key) → IsTold A (next_by o next (f w)) key
      by w none None early key is = second.tells (f w) early key is
      by w none (Some fault) early key is = first.tells w none key is

  tells_counted : Tells A counted
  unfolding counted_with
  tells_counted = record { tells = λ w none. by w none (nat_lt MAX_PATHS (w.paths + 1)) }
    where
      by : (w : Walk) → w.fault ≡ None → (b : Bool) → (key : Key) → (counted_with w b).fault ≡ Some (Incomplete key) → IsTold A (counted_with w b) key
      by w none true key is = cc
      by w none false key is = cc

  tells_block : (blocks : Bool) (id : List ℕ) → Tells A (walk_block blocks A id)
  tells_block blocks id = record { tells = λ w none. by w none (map.get A (block_key id)) refl }
    where
      block_with : Walk → Bool → Walk
      block_with w b = if b then visited (block_key id) w else failed (Incomplete (block_key id)) (visited (block_key id) w)

      by : (w : Walk) → w.fault ≡ None → (o : Option (List ℕ)) → map.get A (block_key id) ≡ o → (key : Key)
          → (if is_some o then visited (block_key id) w else failed (Incomplete (block_key id)) (visited (block_key id) w)).fault ≡ Some (Incomplete key)
          → IsTold A (if is_some o then visited (block_key id) w else failed (Incomplete (block_key id)) (visited (block_key id) w)) key
      by w none None here key is =
          let same : block_key id ≡ key = cc in
          record { before = w.visits; last = ap (λ k. w.visits ++ k ∷ []) same; absent = subst (λ k. map.get A k ≡ None) same here }
      by w none (Some bytes) here key is = cc

  tells_blocks : (blocks : Bool) (ids : List (List ℕ)) → Tells A (walk_blocks blocks A ids)
  tells_blocks blocks [] = record { tells = λ w none key is. nothing_told none is }
  tells_blocks blocks (id ∷ ids) = tells_after (walk_block blocks A id) (walk_blocks blocks A ids) (tells_block blocks id) (tells_blocks blocks ids)

  tells_sized : (blocks : Bool) (id : List ℕ) (file : FileObject) → Tells A (sized blocks A id file)
  tells_sized blocks id file = record { tells = λ w none. by w none (file.size == length (joined A file.blocks)) }
    where
      by : (w : Walk) → w.fault ≡ None → (b : Bool) → (key : Key) → (if b then w else failed (WrongSize id) w).fault ≡ Some (Incomplete key) → IsTold A (if b then w else failed (WrongSize id) w) key
      by w none true key is = nothing_told none is
      by w none false key is = cc

  tells_file : (blocks : Bool) (id : List ℕ) (file : FileObject) → Tells A (walk_file blocks A id file)
  tells_file true id file = tells_after (walk_blocks true A file.blocks) (sized true A id file) (tells_blocks true file.blocks) (tells_sized true id file)
  tells_file false id file = record { tells = λ w none key is. nothing_told none is }

  tells_object : (id : List ℕ) (F : FsObject → Step) → ((object : FsObject) → Tells A (F object))
      → Tells A (λ w. then_read (fs_at A id) F (visited (fs_key id) w))
  tells_object id F h = record { tells = λ w none. by w none (map.get A (fs_key id)) refl }
    where
      read : (w : Walk) → w.fault ≡ None → (r : Result FsObject BadFs) → (key : Key) → (then_read (as_read (fs_key id) r) F w).fault ≡ Some (Incomplete key)
          → IsTold A (then_read (as_read (fs_key id) r) F w) key
      read w none (Ok object) key is = (h object).tells w none key is
      read w none (Err bad) key is = cc

      by : (w : Walk) → w.fault ≡ None → (o : Option (List ℕ)) → map.get A (fs_key id) ≡ o → (key : Key)
          → (then_read (fs_in (fs_key id) o) F (visited (fs_key id) w)).fault ≡ Some (Incomplete key) → IsTold A (then_read (fs_in (fs_key id) o) F (visited (fs_key id) w)) key
      by w none None here key is =
          let same : fs_key id ≡ key = cc in
          record { before = w.visits; last = ap (λ k. w.visits ++ k ∷ []) same; absent = subst (λ k. map.get A k ≡ None) same here }
      by w none (Some bytes) here key is = read (visited (fs_key id) w) none (fs_of bytes) key is

  pub telling : (blocks : Bool) → Scheme blocks blocks A A (λ f g. Tells A f)
  telling blocks = record {
    nothing = record { tells = λ w none key is. nothing_told none is };
    counts = tells_counted;
    deep = λ path. record { tells = λ w none key is. cc };
    kind = λ id. record { tells = λ w none key is. cc };
    after = λ f g next other first second. tells_after f next first second;
    file = λ id file. tells_file blocks id file;
    object = λ id F G h. tells_object id F h;
  }

  pub root_tells : (blocks : Bool) (id : List ℕ) (w : Walk) → w.fault ≡ None → (key : Key) → (walk_root blocks A id w).fault ≡ Some (Incomplete key) → IsTold A (walk_root blocks A id w) key
  root_tells blocks id = (along_root blocks blocks A A (λ f g. Tells A f) (telling blocks) id).tells

  pub commit_tells : (id : List ℕ) (key : Key) → (walk_commit A id).fault ≡ Some (Incomplete key) → IsTold A (walk_commit A id) key
  unfolding walk_commit
  commit_tells id key = by (map.get A (commit_key id)) refl
    where
      named : (b : Bool) (commit : Commit)
          → (then_read (if b then Ok commit else Err (Unreadable (commit_key id))) (λ commit. walk_root true A commit.root) (visited (commit_key id) start)).fault ≡ Some (Incomplete key)
          → IsTold A (then_read (if b then Ok commit else Err (Unreadable (commit_key id))) (λ commit. walk_root true A commit.root) (visited (commit_key id) start)) key
      named true commit is = root_tells true commit.root (visited (commit_key id) start) refl key is
      named false commit is = cc

      read : (r : Result Commit BadCommit) → (then_read (of_name id r) (λ commit. walk_root true A commit.root) (visited (commit_key id) start)).fault ≡ Some (Incomplete key)
          → IsTold A (then_read (of_name id r) (λ commit. walk_root true A commit.root) (visited (commit_key id) start)) key
      read (Ok commit) is = named (same_id commit.id id) commit is
      read (Err bad) is = cc

      by : (o : Option (List ℕ)) → map.get A (commit_key id) ≡ o
          → (then_read (commit_in id o) (λ commit. walk_root true A commit.root) (visited (commit_key id) start)).fault ≡ Some (Incomplete key)
          → IsTold A (then_read (commit_in id o) (λ commit. walk_root true A commit.root) (visited (commit_key id) start)) key
      by None here is =
          let same : commit_key id ≡ key = cc in
          record { before = []; last = ap (λ k. k ∷ []) same; absent = subst (λ k. map.get A k ≡ None) same here }
      by (Some bytes) here is = read (commit_of bytes) is

-- objects that keep what is stored agree on keys that are stored
pub agree_kept : (A B : Objects) (keys : List Key) → Keeps A B → AllStored A keys → AgreeOn keys A B
agree_kept A B keys keeps all = record { same = λ key e. by key (map.get A key) refl (all.stored key e) }
  where
    by : (key : Key) (o : Option (List ℕ)) → map.get A key ≡ o → is_some (map.get A key) ≡ true → map.get B key ≡ map.get A key
    by key None here there = cc (ap is_some here)
    by key (Some bytes) here there = keeps.kept key bytes here ∙ sym here

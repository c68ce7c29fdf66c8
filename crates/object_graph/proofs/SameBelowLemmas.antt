-- What lies below a directory is the same where the objects agree on what its traversal visits. The key lemmas are
-- same_dirents, same_entry, same_contents and same_below.
use Rattle.std.proofs.Common.{◌≡◌, ℕ, Bool, true, false, if◌then◌else◌, List, [], ◌∷◌, ◌++◌, refl, ap, ◌∙◌, subst, Option, None, Some, Result, Ok, Err, option_map, option_and_then}
use Rattle.ids.specs.Key.{Objects}
use Rattle.ids.specs.declared.key.Key.{Key}
use Rattle.tree_model.specs.Path.{PathV}
use Rattle.tree_model.specs.declared.limits.TheConstants.{MAX_NAMES}
use Rattle.tree_model.specs.declared.node.Node.TheVariants as node
use Rattle.fs_objects.specs.Mode.{is_directory_mode}
use Rattle.fs_objects.specs.declared.dirent.Dirent.{Dirent}
use Rattle.fs_objects.specs.declared.fs_object.FsObject.{FsObject}
use Rattle.fs_objects.specs.declared.fs_object.FsObject.TheVariants as fs
use Rattle.object_graph.specs.Objects.{fs_key, fs_at, fs_in, is_nil, entries_of, blocks_of, entry_named, entry_of, directory_in, dirents_at, joined, contents_of, entry_in, entry_below, node_of, node_below}
use Rattle.object_graph.specs.Traversal.{Walk, start, visited, then_read, walk_blocks, sized, walk_found, walk_object, walk_below, walk_root, is_in, IsCompleteRoot}
use Rattle.object_graph.specs.Unchanged.{AgreeOn}
use Rattle.object_graph.specs.declared.entry.Entry.{Entry}
use Rattle.object_graph.specs.declared.entry.Entry.TheVariants as entry
use Rattle.object_graph.specs.declared.fault.TreeFault.{TreeFault}
use Rattle.object_graph.proofs.KeyLemmas.{Within, within_itself, within_then, in_last}
use Rattle.object_graph.proofs.SchemeLemmas.{none_before}
use Rattle.object_graph.proofs.LocalityLemmas.{agree_within, within_next, same_joined, follows_sized}
use Rattle.object_graph.proofs.BelowLemmas.{Ran, Reached, grows_found, entry_ran, reaches}

-- a root's own traversal
pub ran_root : (blocks : Bool) (A : Objects) (id : List ℕ) (w : Walk) → (walk_root blocks A id w).fault ≡ None
    → Ran (walk_object blocks A (walk_below blocks A MAX_NAMES) true [] id) (walk_root blocks A id w).visits
ran_root blocks A id w none = record { from = w; none = none; within = within_itself (walk_root blocks A id w).visits }

module _ (blocks : Bool) (A B : Objects) where
  -- an object that isn't forty zeros is visited, and so read alike
  pub same_fs : (room : ℕ) (wants : Bool) (path : PathV) (id : List ℕ) (visits : List Key) → Ran (walk_object blocks A (walk_below blocks A room) wants path id) visits
      → AgreeOn visits A B → is_nil id ≡ false → fs_at B id ≡ fs_at A id
  same_fs room wants path id visits ran agree other = ap (fs_in (fs_key id)) (agree.same (fs_key id) (ran.within.there (fs_key id) (by (is_nil id) other)))
    where
      after : (r : Result FsObject TreeFault) (v : Walk) → Within v.visits (then_read r (walk_found blocks A (walk_below blocks A room) wants path id) v).visits
      after (Ok object) v = grows_found blocks A room wants path id object v
      after (Err fault) v = within_itself v.visits

      by : (n : Bool) → n ≡ false
          → is_in (if n then ran.from else then_read (fs_at A id) (walk_found blocks A (walk_below blocks A room) wants path id) (visited (fs_key id) ran.from)).visits (fs_key id) ≡ true
      by true other = cc
      by false other = (after (fs_at A id) (visited (fs_key id) ran.from)).there (fs_key id) (in_last ran.from.visits (fs_key id))

  pub same_dirents : (room : ℕ) (path : PathV) (id : List ℕ) (visits : List Key) → Ran (walk_object blocks A (walk_below blocks A room) true path id) visits
      → AgreeOn visits A B → dirents_at B id ≡ dirents_at A id
  same_dirents room path id visits ran agree = by (is_nil id) refl
    where
      by : (n : Bool) → is_nil id ≡ n → (if n then [] else entries_of (fs_at B id)) ≡ (if n then [] else entries_of (fs_at A id))
      by true other = refl
      by false other = ap entries_of (same_fs room true path id visits ran agree other)

  pub same_entry : (q : PathV) (room : ℕ) (path : PathV) (id : List ℕ) (visits : List Key) → Ran (walk_object blocks A (walk_below blocks A room) true path id) visits
      → AgreeOn visits A B → entry_below B q id ≡ entry_below A q id
  same_entry [] room path id visits ran agree = refl
  same_entry (name ∷ []) room path id visits ran agree = ap (λ es. option_map entry_of (entry_named name es)) (same_dirents room path id visits ran agree)
  same_entry (name ∷ next ∷ q) room path id visits ran agree =
      ap (λ es. option_and_then (λ id. entry_in B (dirents_at B id) (next ∷ q)) (directory_in (entry_named name es))) (same_dirents room path id visits ran agree)
      ∙ by (entry_named name (dirents_at A id)) refl (same_entry (next ∷ q))
    where
      within : (e : Dirent) (b : Bool) (less : ℕ) → Ran (walk_object blocks A (walk_below blocks A less) b (path ++ e.name ∷ []) e.id) visits
          → ((room : ℕ) (path : PathV) (id : List ℕ) (visits : List Key) → Ran (walk_object blocks A (walk_below blocks A room) true path id) visits
          → AgreeOn visits A B → entry_in B (dirents_at B id) (next ∷ q) ≡ entry_in A (dirents_at A id) (next ∷ q))
          → option_and_then (λ id. entry_in B (dirents_at B id) (next ∷ q)) (if b then Some e.id else None)
          ≡ option_and_then (λ id. entry_in A (dirents_at A id) (next ∷ q)) (if b then Some e.id else None)
      within e true less own more = more less (path ++ e.name ∷ []) e.id visits own agree
      within e false less own more = refl

      by : (o : Option Dirent) → entry_named name (dirents_at A id) ≡ o
          → ((room : ℕ) (path : PathV) (id : List ℕ) (visits : List Key) → Ran (walk_object blocks A (walk_below blocks A room) true path id) visits
          → AgreeOn visits A B → entry_in B (dirents_at B id) (next ∷ q) ≡ entry_in A (dirents_at A id) (next ∷ q))
          → option_and_then (λ id. entry_in B (dirents_at B id) (next ∷ q)) (directory_in o) ≡ option_and_then (λ id. entry_in A (dirents_at A id) (next ∷ q)) (directory_in o)
      by None found more = refl
      by (Some e) found more =
          let here = entry_ran blocks A room path id visits ran name e found in
          within e (is_directory_mode e.mode) here.0 here.2 more

-- with the blocks, the contents of files are the same too
module _ (A B : Objects) where
  pub same_contents : (room : ℕ) (path : PathV) (id : List ℕ) (visits : List Key) → Ran (walk_object true A (walk_below true A room) false path id) visits
      → AgreeOn visits A B → contents_of B id ≡ contents_of A id
  same_contents room path id visits ran agree = by (is_nil id) refl ran.none ran.within
    where
      read : (v : Walk) (r : Result FsObject TreeFault) → (then_read r (walk_found true A (walk_below true A room) false path id) v).fault ≡ None
          → Within (then_read r (walk_found true A (walk_below true A room) false path id) v).visits visits
          → joined B (blocks_of r) ≡ joined A (blocks_of r)
      read v (Ok (fs.File file)) none within =
          let bytes : Walk = walk_blocks true A file.blocks v in
          same_joined A B true file.blocks v (none_before bytes (sized true A id file) none)
          (agree_within (within_then (within_next bytes (sized true A id file) (follows_sized A B true id file)) within) agree)
      read v (Ok (fs.Dir entries)) none within = refl
      read v (Err fault) none within = refl

      by : (n : Bool) → is_nil id ≡ n
          → (if n then ran.from else then_read (fs_at A id) (walk_found true A (walk_below true A room) false path id) (visited (fs_key id) ran.from)).fault ≡ None
          → Within (if n then ran.from else then_read (fs_at A id) (walk_found true A (walk_below true A room) false path id) (visited (fs_key id) ran.from)).visits visits
          → joined B (if n then [] else blocks_of (fs_at B id)) ≡ joined A (if n then [] else blocks_of (fs_at A id))
      by true other none within = refl
      by false other none within =
          ap (λ r. joined B (blocks_of r)) (same_fs true A B room false path id visits ran agree other)
          ∙ read (visited (fs_key id) ran.from) (fs_at A id) none within

  same_node : (x : Entry) (visits : List Key) → Reached true A x visits → AgreeOn visits A B → node_of B x ≡ node_of A x
  same_node x visits reached agree = by (is_directory_mode reached.e.mode) reached.is reached.ran
    where
      by : (b : Bool) → (if b then entry.Dir else entry.File reached.e.id reached.e.mode reached.e.mtime reached.e.modifier reached.e.size) ≡ x
          → Ran (walk_object true A (walk_below true A reached.room) b reached.path reached.e.id) visits → node_of B x ≡ node_of A x
      by true is ran = subst (λ z. node_of B z ≡ node_of A z) is refl
      by false is ran =
          subst (λ z. node_of B z ≡ node_of A z) is
          (ap (λ bytes. node.File (record { mode = reached.e.mode; mtime = reached.e.mtime; modifier = reached.e.modifier; bytes = bytes }))
          (same_contents reached.room reached.path reached.e.id visits ran agree))

  -- what stands at each path below a directory
  pub same_below : (room : ℕ) (path : PathV) (id : List ℕ) (visits : List Key) → Ran (walk_object true A (walk_below true A room) true path id) visits
      → AgreeOn visits A B → (q : PathV) → node_below B q id ≡ node_below A q id
  same_below room path id visits ran agree q =
      ap (option_map (node_of B)) (same_entry true A B q room path id visits ran agree) ∙ by (entry_below A q id) refl
    where
      by : (o : Option Entry) → entry_below A q id ≡ o → option_map (node_of B) o ≡ option_map (node_of A) o
      by None found = refl
      by (Some x) found = ap Some (same_node x visits (reaches true A q room path id visits ran x found).0 agree)

  -- and so each tree of a complete root
  pub same_tree : (root : List ℕ) → IsCompleteRoot A root → AgreeOn (walk_root true A root start).visits A B → (q : PathV) → node_below B q root ≡ node_below A q root
  same_tree root none agree q = same_below MAX_NAMES [] root (walk_root true A root start).visits (ran_root true A root start none) agree q

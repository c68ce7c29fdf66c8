-- A commit that is complete needs its own object, the directories below its root, and the objects and blocks of their files. The key lemmas
-- are commit_needed, directory_needed and file_needed.
use Rattle.std.proofs.Common.{◌≡◌, ◌≢◌, ℕ, ℤ, Bool, true, false, if◌then◌else◌, List, [], sym, ap, ◌∙◌, subst, Option, Some, Result, Ok, Err, inl, inr}
use Rattle.std.specs.Prelude.{codes, length, min, pos}
use Rattle.sha1.specs.Sha1.{sha1}
use Rattle.commit_objects.specs.declared.commit.Commit.{Commit}
use Rattle.fs_objects.specs.Mode.{is_directory_mode}
use Rattle.fs_objects.specs.declared.dirent.Dirent.{Dirent}
use Rattle.fs_objects.specs.declared.fs_object.FsObject.{FsObject}
use Rattle.ids.specs.Key.{Objects}
use Rattle.ids.specs.ObjectId.{nil}
use Rattle.ids.specs.declared.key.Key.{Key}
use Rattle.object_graph.specs.Objects.{as_read, block_key, commit_at, commit_key, entry_below, entry_of, fs_at, fs_in, fs_key, is_nil}
use Rattle.object_graph.specs.Reached.{named, named_by_commit, named_by_fs, own_keys, pends}
use Rattle.object_graph.specs.Traversal.{IsComplete, IsCompleteRoot, Walk, is_in, needs, start, then_read, visited, walk_below, walk_commit, walk_found, walk_object, walk_root}
use Rattle.object_graph.specs.declared.entry.Entry.TheVariants as entry
use Rattle.object_graph.specs.declared.fault.TreeFault.{TreeFault}
use Rattle.object_graph.proofs.BelowLemmas.{Ran, grows_found, reaches}
use Rattle.object_graph.proofs.CommitLemmas.{commit_root}
use Rattle.object_graph.proofs.KeyLemmas.{Within, in_distinct, in_last, within_itself}
use Rattle.object_graph.proofs.ReachingLemmas.{commit_closes, in_first, reached_within, root_closes, root_within}
use Rattle.object_graph.proofs.SameBelowLemmas.{ran_root}
use Rattle.tree_merge.proofs.MadeLemmas.{not_nil}
use Rattle.tree_merge.proofs.VisitedLemmas.{directory_visited}
use Rattle.tree_merge.specs.TreeBuilding.{IsDirectoryOf}
use Rattle.tree_model.specs.Path.{PathV}
use Rattle.tree_model.specs.declared.limits.TheConstants.{MAX_NAMES}
use Rattle.generated_library.specs.Filled.{IsFileStored, IsOfFile, file_entry, file_id}

-- the object of an entry that was gone over was visited
object_visited : (A : Objects) (room : ℕ) (wants : Bool) (path : PathV) (id : List ℕ) (visits : List Key) → Ran (walk_object true A (walk_below true A room) wants path id) visits → is_nil id ≡ false
    → is_in visits (fs_key id) ≡ true
object_visited A room wants path id visits ran other = ran.within.there (fs_key id) (by (is_nil id) other)
  where
    after : (r : Result FsObject TreeFault) (v : Walk) → Within v.visits (then_read r (walk_found true A (walk_below true A room) wants path id) v).visits
    after (Ok object) v = grows_found true A room wants path id object v
    after (Err fault) v = within_itself v.visits

    by : (n : Bool) → n ≡ false
        → is_in (if n then ran.from else then_read (fs_at A id) (walk_found true A (walk_below true A room) wants path id) (visited (fs_key id) ran.from)).visits (fs_key id) ≡ true
    by true other = cc
    by false other = (after (fs_at A id) (visited (fs_key id) ran.from)).there (fs_key id) (in_last ran.from.visits (fs_key id))

-- the id of a file's entry
id_of : (e : Dirent) (id : List ℕ) (mode : ℕ) (mtime : ℤ) (modifier : List ℕ) (size : ℕ) → entry_of e ≡ entry.File id mode mtime modifier size → e.id ≡ id
id_of e id mode mtime modifier size = by (is_directory_mode e.mode)
  where
    by : (b : Bool) → (if b then entry.Dir else entry.File e.id e.mode e.mtime e.modifier e.size) ≡ entry.File id mode mtime modifier size → e.id ≡ id
    by true is = cc
    by false is = cc

-- a file object that is stored names its block
block_named : (A : Objects) (bytes : List ℕ) → IsFileStored A bytes → is_in (named A (fs_key (file_id bytes))) (block_key (sha1 bytes)) ≡ true
block_named A bytes stored =
    ap (λ (o : Option (List ℕ)). is_in (named_by_fs (fs_in (fs_key (file_id bytes)) o)) (block_key (sha1 bytes))) stored.file
    ∙ (ap (λ (r : Result _ _). is_in (named_by_fs (as_read (fs_key (file_id bytes)) r)) (block_key (sha1 bytes))) stored.reads ∙ in_first (block_key (sha1 bytes)) [])

module _ (A : Objects) (id : List ℕ) (commit : Commit) (complete : IsComplete A id) (read : commit_at A id ≡ Ok commit) where
  root_complete : IsCompleteRoot A commit.root
  root_complete =
      let own = commit_root A id complete in
      let one : own.0 ≡ commit = cc (own.1, read) in
      subst (λ (c : Commit). IsCompleteRoot A c.root) one own.2

  commit_visited : is_in (walk_commit A id).visits (commit_key id) ≡ true
  commit_visited = reached_within A id complete (commit_key id) (pends (commit_key id) (in_first (commit_key id) []))

  root_own : (key : Key) → is_in (own_keys commit.root) key ≡ true → is_in (walk_commit A id).visits key ≡ true
  root_own key own = commit_closes A id complete (commit_key id) key commit_visited (ap (λ (r : Result Commit TreeFault). is_in (named_by_commit r) key) read ∙ own)

  -- it needs what the traversal of its root visits
  below_needed : (key : Key) → is_in (walk_root true A commit.root start).visits key ≡ true → is_in (needs A id) key ≡ true
  below_needed key there =
      in_distinct (walk_commit A id).visits key
      ∙ root_within A (λ (k : Key). is_in (walk_commit A id).visits k ≡ true) (commit_closes A id complete) commit.root root_own key there

  pub commit_needed : (key : Key) → key ≡ commit_key id → is_in (needs A id) key ≡ true
  commit_needed key own =
      in_distinct (walk_commit A id).visits key ∙ subst (λ (k : Key). is_in (walk_commit A id).visits k ≡ true) (sym own) commit_visited

  pub directory_needed : (key : Key) → key ≡ fs_key key.id → key.id ≢ nil → IsDirectoryOf A commit.root key.id → is_in (needs A id) key ≡ true
  directory_needed key own some reached =
      subst (λ (k : Key). is_in (needs A id) k ≡ true) (sym own)
      (below_needed (fs_key key.id) (directory_visited A commit.root root_complete key.id (not_nil key.id some) reached))

  pub file_needed : (path : PathV) (moment : ℕ) (bytes : List ℕ) → IsFileStored A bytes → entry_below A path commit.root ≡ Some (file_entry moment bytes) → (key : Key) → IsOfFile bytes key
      → is_in (needs A id) key ≡ true
  file_needed path moment bytes stored at key own = below_needed key (by own)
    where
      object : is_in (walk_root true A commit.root start).visits (fs_key (file_id bytes)) ≡ true
      object =
          let reached = (reaches true A path MAX_NAMES [] commit.root (walk_root true A commit.root start).visits (ran_root true A commit.root start root_complete) (file_entry moment bytes) at).0 in
          let same : reached.e.id ≡ file_id bytes = id_of reached.e (file_id bytes) 33188 (pos (min moment 9223372036854775807)) (codes "make") (length bytes) reached.is in
          subst (λ (i : List ℕ). is_in (walk_root true A commit.root start).visits (fs_key i) ≡ true) same
          (object_visited A reached.room (is_directory_mode reached.e.mode) reached.path reached.e.id (walk_root true A commit.root start).visits reached.ran
          (ap is_nil same ∙ not_nil (file_id bytes) stored.some.1))

      by : IsOfFile bytes key → is_in (walk_root true A commit.root start).visits key ≡ true
      by (inl block) =
          subst (λ (k : Key). is_in (walk_root true A commit.root start).visits k ≡ true) (sym block)
          (root_closes A commit.root root_complete (fs_key (file_id bytes)) (block_key (sha1 bytes)) object (block_named A bytes stored))
      by (inr file) = subst (λ (k : Key). is_in (walk_root true A commit.root start).visits k ≡ true) (sym file) object

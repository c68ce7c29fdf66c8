-- What holds of commits. The key lemmas are commit_grown, commit_root and tree_of_commit_stays.
use Rattle.std.proofs.Common.{◌≡◌, ℕ, true, List, [], refl, sym, ap, ◌∙◌, subst, None, Result, Ok, Err}
use Rattle.ids.specs.Key.{Objects}
use Rattle.tree_model.specs.Path.{PathV}
use Rattle.tree_model.specs.Tree.{Tree}
use Rattle.tree_model.specs.declared.limits.TheConstants.{MAX_NAMES}
use Rattle.commit_objects.specs.declared.commit.Commit.{Commit}
use Rattle.object_graph.specs.Objects.{commit_key, commit_at, node_below, IsTreeOf}
use Rattle.object_graph.specs.Traversal.{Walk, start, visited, then_read, walk_root, walk_object, walk_below, walk_commit, needs, IsComplete, IsCompleteRoot}
use Rattle.object_graph.specs.Unchanged.{AgreeOn, Keeps}
use Rattle.object_graph.specs.declared.fault.TreeFault.{TreeFault}
use Rattle.object_graph.proofs.KeyLemmas.{within_itself}
use Rattle.object_graph.proofs.LimitLemmas.{root_spared}
use Rattle.object_graph.proofs.LocalityLemmas.{local_commit, agree_needs}
use Rattle.object_graph.proofs.SameBelowLemmas.{ran_root, same_below}
use Rattle.object_graph.proofs.StoredLemmas.{commit_stored, agree_kept, none_stored, object_stored}

module _ (A B : Objects) where
  pub agree_grown : (id : List ℕ) → IsComplete A id → Keeps A B → AgreeOn (walk_commit A id).visits A B
  agree_grown id complete keeps = agree_kept A B (walk_commit A id).visits keeps (commit_stored A id complete)

  pub commit_grown : (id : List ℕ) → IsComplete A id → Keeps A B → walk_commit B id ≡ walk_commit A id
  commit_grown id complete keeps = local_commit A B id (agree_grown id complete keeps)

  pub commit_needed : (id : List ℕ) → AgreeOn (needs A id) A B → walk_commit B id ≡ walk_commit A id
  commit_needed id agree = local_commit A B id (agree_needs A B id agree)

-- the root of a complete commit, traversed as the commit's traversal does
pub record RootRan (A : Objects) (id : List ℕ) : Type 0 where
  pub commit : Commit
  pub read : commit_at A id ≡ Ok commit
  pub none : (walk_root true A commit.root (visited (commit_key id) start)).fault ≡ None
  pub is : walk_commit A id ≡ walk_root true A commit.root (visited (commit_key id) start)

pub root_ran : (A : Objects) (id : List ℕ) → IsComplete A id → RootRan A id
unfolding walk_commit
root_ran A id = by (commit_at A id) refl
  where
    by : (r : Result Commit TreeFault) → commit_at A id ≡ r
        → (then_read r (λ commit. walk_root true A commit.root) (visited (commit_key id) start)).fault ≡ None → RootRan A id
    by (Ok commit) read none =
        record { commit = commit; read = read; none = none; is = ap (λ (r : Result Commit TreeFault). then_read r (λ commit. walk_root true A commit.root) (visited (commit_key id) start)) read }
    by (Err fault) read none = cc

pub commit_root : (A : Objects) (id : List ℕ) → IsComplete A id → (commit : Commit) × (commit_at A id ≡ Ok commit) × IsCompleteRoot A commit.root
commit_root A id complete =
    let own = root_ran A id complete in
    (own.commit, own.read, root_spared A true own.commit.root (visited (commit_key id) start) own.none)

pub tree_of_commit_stays : (A B : Objects) (id : List ℕ) (commit : Commit) (tree : Tree) → IsComplete A id → commit_at A id ≡ Ok commit
    → AgreeOn (needs A id) A B → IsTreeOf A commit.root tree → IsTreeOf B commit.root tree
tree_of_commit_stays A B id commit tree complete read agree is path =
    let own = root_ran A id complete in
    let one : own.commit ≡ commit = cc (own.read, read) in
    let on : AgreeOn (walk_root true A own.commit.root (visited (commit_key id) start)).visits A B = subst (λ (w : Walk). AgreeOn w.visits A B) own.is (agree_needs A B id agree) in
    let ran = ran_root true A own.commit.root (visited (commit_key id) start) own.none in
    let same : node_below B path own.commit.root ≡ node_below A path own.commit.root = same_below A B MAX_NAMES [] own.commit.root (walk_root true A own.commit.root (visited (commit_key id) start)).visits ran on path in
    is path ∙ sym (subst (λ (c : Commit). node_below B path c.root ≡ node_below A path c.root) one same)

pub below_grown : (A B : Objects) (room : ℕ) (path : PathV) (id : List ℕ) → (walk_object true A (walk_below true A room) true path id start).fault ≡ None → Keeps A B
    → (below : PathV) → node_below B below id ≡ node_below A below id
below_grown A B room path id none keeps below =
    same_below A B room path id (walk_object true A (walk_below true A room) true path id start).visits
    (record { from = start; none = none; within = within_itself (walk_object true A (walk_below true A room) true path id start).visits })
    (agree_kept A B (walk_object true A (walk_below true A room) true path id start).visits keeps (object_stored A true room true path id start (none_stored A) none)) below

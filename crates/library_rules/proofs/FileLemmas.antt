-- A kept commit's files stay. The key lemma is keeps_between.
use Rattle.std.proofs.Common.{◌≡◌, ℕ, ◌≤◌, List, refl, sym, subst, le_refl, Result, Ok, Err}
use Rattle.ids.specs.Key.{Objects}
use Rattle.commit_objects.specs.declared.commit.Commit.{Commit}
use Rattle.object_graph.specs.Objects.{commit_at}
use Rattle.object_graph.specs.Traversal.{needs, IsComplete}
use Rattle.object_graph.specs.Unchanged.{AgreeOn}
use Rattle.object_graph.specs.declared.fault.TreeFault.{TreeFault}
use Rattle.object_graph.proofs.CommitLemmas.{tree_of_commit_stays}
use Rattle.tree_model.specs.Tree.{Tree}
use Rattle.library_rules.specs.Files.{IsKeptBetween, KeepsFiles}
use Rattle.library_rules.specs.History.{Legal, after}
use Rattle.library_rules.specs.LibraryState.{State, IsSound}
use Rattle.library_rules.specs.MergeCommit.{RootTree, IsTreeAt}
use Rattle.library_rules.specs.declared.entry.Entry.{Entry}
use Rattle.library_rules.proofs.HistoryLemmas.{sound_after, agrees_between, same_commit}
use Rattle.library_rules.proofs.KeepingLemmas.{same_needs, needs_stored}

-- the tree of a commit stays where what it needs does
pub same_tree : (A B : Objects) (id : List ℕ) → IsComplete A id → AgreeOn (needs A id) A B → (tree : Tree) → IsTreeAt A id tree → IsTreeAt B id tree
same_tree A B id complete agree tree is = subst (λ r. RootTree B r tree) (sym (same_commit A B id agree)) (by (commit_at A id) refl is)
  where
    by : (r : Result Commit TreeFault) → commit_at A id ≡ r → RootTree A r tree → RootTree B r tree
    by (Ok commit) read is = tree_of_commit_stays A B id commit tree complete read agree is
    by (Err fault) read is = is

pub keeps_files : (A B : Objects) (id : List ℕ) → IsComplete A id → AgreeOn (needs A id) A B → KeepsFiles A B id
keeps_files A B id complete agree = record {
  stored = needs_stored A id complete;
  same = agree;
  same_needs = same_needs A B id agree;
  trees = same_tree A B id complete agree;
}

pub keeps_between : (start : State) (es : List Entry) (from to : ℕ) (id : List ℕ) → Legal start es → IsSound start → from ≤ to
    → IsKeptBetween start es from to id → KeepsFiles (after start es from).objects (after start es to).objects id
keeps_between start es from to id legal sound le kept =
    keeps_files (after start es from).objects (after start es to).objects id
    ((sound_after start es from legal sound).kept.complete id (kept.each from (le_refl from) le))
    (agrees_between id start es from to legal sound le kept.each)

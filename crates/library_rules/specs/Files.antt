-- What it is that a kept commit's files stay. Our own. Read IsKeptBetween, then KeepsFiles.
use Rattle.std.specs.Prelude.{◌≡◌, ℕ, ◌≤◌, true, List}
use Rattle.ids.specs.Key.{Objects}
use Rattle.ids.specs.declared.key.Key.{Key}
use Rattle.object_graph.specs.Traversal.{is_in, needs}
use Rattle.object_graph.specs.Unchanged.{AgreeOn}
use Rattle.tree_model.specs.Tree.{Tree}
use Rattle.library_rules.specs.History.{after}
use Rattle.library_rules.specs.LibraryState.{State, is_kept, is_stored}
use Rattle.library_rules.specs.MergeCommit.{IsTreeAt}
use Rattle.library_rules.specs.declared.entry.Entry.{Entry}

-- a commit is kept at each of these places of a history
pub record IsKeptBetween (start : State) (es : List Entry) (from to : ℕ) (commit : List ℕ) : Type 0 where
  pub each : (n : ℕ) → from ≤ n → n ≤ to → is_kept (after start es n).state.kept commit ≡ true

-- what a commit needs is stored at both places, with equal bytes, and its tree stays the same, byte for byte
pub record KeepsFiles (old new : Objects) (commit : List ℕ) : Type 0 where
  pub stored : (key : Key) → is_in (needs old commit) key ≡ true → is_stored old key ≡ true
  pub same : AgreeOn (needs old commit) old new
  pub same_needs : needs new commit ≡ needs old commit
  pub trees : (tree : Tree) → IsTreeAt old commit tree → IsTreeAt new commit tree

-- each commit that was kept keeps its files
abbrev pub KeepsKept : State → State → Type 0
KeepsKept s t = (commit : List ℕ) → is_kept s.state.kept commit ≡ true → KeepsFiles s.objects t.objects commit

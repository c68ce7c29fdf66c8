-- What the head is after an update that took in a new commit, in a sound state. Our own. Read TakesIn, then IsMergedHead and IsForwarded.
use Rattle.std.specs.Prelude.{◌≡◌, ◌⊎◌, ℕ, true, false, List}
use Rattle.library_state.specs.declared.call.Act.TheVariants as act
use Rattle.library_state.specs.declared.call.Call.{Call}
use Rattle.library_state.specs.declared.reply.Reply.TheVariants as reply
use Rattle.object_graph.specs.Traversal.{IsComplete}
use Rattle.tree_model.specs.ThreeWayMerge.{MergedTree}
use Rattle.tree_model.specs.Tree.{Tree, IsAlike}
use Rattle.library_rules.specs.History.{Permits}
use Rattle.library_rules.specs.LibraryState.{State, IsSound, is_kept, head_of}
use Rattle.library_rules.specs.MergeBase.{Base, base_of}
use Rattle.library_rules.specs.MergeCommit.{OfTrees, IsTreeAt}
use Rattle.library_rules.specs.declared.entry.Entry.{Entry}
use Rattle.library_rules.specs.declared.entry.Step.TheVariants as step
use Rattle.conflict_names.specs.Naming.{merge_of}

-- in a sound state, a permitted update that was answered with this head, of a commit that wasn't kept
pub record TakesIn (s : State) (e : Entry) (pushed new : List ℕ) : Type 0 where
  pub sound : IsSound s
  pub permits : Permits s e
  pub call : Call
  pub asked : e.step ≡ step.Asked call
  pub updates : call.act ≡ act.Update pushed
  pub answers : e.reply ≡ reply.Updated new
  pub unknown : is_kept s.state.kept pushed ≡ false

-- the merge base is a kept commit, and base, old head and pushed commit are complete, so each has a tree
pub record HasBase (s : State) (base pushed : List ℕ) : Type 0 where
  pub found : base_of s pushed ≡ Base base
  pub kept : is_kept s.state.kept base ≡ true
  pub base_complete : IsComplete s.objects base
  pub head_complete : IsComplete s.objects (head_of s.state.kept)
  pub pushed_complete : IsComplete s.objects pushed

-- the tree of the new head is the merge of the three trees, up to times and authors of files
pub record IsMergedHead (s t : State) (base pushed new : List ℕ) : Type 0 where
  pub head : head_of t.state.kept ≡ new
  pub tree : OfTrees s base pushed (λ sides. (merged made : Tree) × (merge_of sides ≡ MergedTree merged) × IsTreeAt t.objects new made × IsAlike merged made)

-- a head that hadn't moved gives way to the pushed commit as it is, and no object is made; else the tree of the new head is the
-- merge in full
abbrev pub IsExact : (s t : State) (base pushed new : List ℕ) → Type 0
IsExact s t base pushed new =
    ((base ≡ head_of s.state.kept) × (new ≡ pushed) × (t.objects ≡ s.objects))
    ⊎ OfTrees s base pushed (λ sides. (merged : Tree) × (merge_of sides ≡ MergedTree merged) × IsTreeAt t.objects new merged)

use Rattle.std.proofs.Common.{◌≡◌, ◌∙◌, List, ℕ, Result, Ok, sym, subst}
use Rattle.ids.specs.Key.{Objects}
use Rattle.commit_objects.specs.declared.commit.Commit.{Commit}
use Rattle.object_graph.specs.Objects.{commit_at}
use Rattle.object_graph.specs.Traversal.{IsComplete, IsCompleteRoot}
use Rattle.object_graph.specs.declared.fault.TreeFault.{TreeFault}
use Rattle.object_graph.proofs.CommitLemmas.{commit_root}
use Rattle.tree_walk.proofs.ReadsLemmas.{read_ok}
use Rattle.tree_tests.proofs.tree_merge_tests.complete_root.Goals as goal

one : (a b : Commit) → (let r : Result Commit TreeFault = Ok a in r) ≡ Ok b → a ≡ b
one a b e = cc

-- the root of a complete commit that was read
root_of : (objects : Objects) (id : List ℕ) (commit : Commit) → commit_at objects id ≡ Ok commit → IsComplete objects id → IsCompleteRoot objects commit.root
root_of objects id commit read complete =
    let found = commit_root objects id complete in
    subst (λ (c : Commit). IsCompleteRoot objects c.root) (one found.0 commit (sym found.1 ∙ read)) found.2

pub returns-in-Ok-needs-clause-value : goal.returns-in-Ok-needs-clause-value
returns-in-Ok-needs-clause-value g c objects told =
    let told_read = sym c.in-Ok-needs.ensures.stays.kept.objects ∙ told in
    let told_first = sym c.in-Ok.ensures.stays.kept.objects ∙ told_read in
    root_of objects c.args.commit c.in-Ok.commit (read_ok objects (commit_at objects c.args.commit) c.in-Ok.commit (c.in-Ok.ensures.value objects told_first))
    (c.in-Ok-needs.ensures.value objects told_read).0

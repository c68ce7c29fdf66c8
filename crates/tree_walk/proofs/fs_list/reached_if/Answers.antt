-- Where there is a commit, its files and directories were reached.
use Rattle.std.proofs.Common.{◌≡◌, ℕ, false, List, Option, None, sym, subst}
use Rattle.object_graph.specs.FsIds.{needs_if}
use Rattle.object_graph.specs.Traversal.{walk_commit}
use Rattle.tree_walk.specs.Reaching.{HasFsOf}
use Rattle.tree_walk.specs.Visits.{commit_due}
use Rattle.tree_walk.proofs.ReadsLemmas.{told_after}
use Rattle.tree_walk.proofs.SeenLemmas.{fs_of_chosen}
use Rattle.tree_walk.proofs.fs_list.reached_if.Goals as goal

pub returns-in-Ok-reached-clause-value : goal.returns-in-Ok-reached-clause-value
returns-in-Ok-reached-clause-value g c = λ objects told.
    let complete = (c.in-Ok.ensures.value objects told).0 in
    let keys = c.in-Ok-reached.ensures.value objects (told_after c.in-Ok.ensures.stays told) complete in
    subst (λ (commit : Option (List ℕ)). commit_due objects commit ≡ None × HasFsOf c.in-Ok-reached.keys (needs_if objects commit)) (sym c.in-Some.is)
    (complete, fs_of_chosen false (walk_commit objects c.in-Some.commit).visits c.in-Ok-reached.keys keys)

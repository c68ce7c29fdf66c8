-- Both commits are complete where their files and directories were reached; else the first fault is due.
use Rattle.std.proofs.Common.{false, ap₂, ◌∙◌}
use Rattle.object_graph.specs.FsIds.{fs_ids, needs_if}
use Rattle.object_graph.specs.Traversal.{needs, walk_commit}
use Rattle.tree_walk.specs.Files.{first_due}
use Rattle.tree_walk.proofs.KnownLemmas.{same_fs_ids}
use Rattle.tree_walk.proofs.ReadsLemmas.{told_after}
use Rattle.tree_walk.proofs.SeenLemmas.{fs_of_chosen}
use Rattle.tree_walk.proofs.fs_list.fs_ids.Goals as goal

pub returns-clause-value : goal.returns-clause-value
unfolding fs_ids
returns-clause-value g c = λ objects told.
    let after = told_after c.in-Ok.ensures.stays told in
    let wanted =
    fs_of_chosen false (walk_commit objects c.args.server).visits c.in-Ok-reached.wanted (c.in-Ok-reached.ensures.value objects after (c.in-Ok.ensures.value objects told).0) in
    let had = c.in-Ok-reached_if.ensures.value objects (told_after c.in-Ok-reached.ensures.stays after) in (
      ap₂ first_due (c.in-Ok.ensures.value objects told).0 had.0,
      c.in_ok-ids.ensures.value ∙ same_fs_ids c.in-Ok-reached.wanted (needs objects c.args.server) c.in-Ok-reached_if.had (needs_if objects c.args.client) wanted had.1,
    )

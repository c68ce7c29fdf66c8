-- A file that was read, and its blocks.
use Rattle.std.proofs.Common.{◌∙◌, refl}
use Rattle.object_graph.specs.Traversal.{start}
use Rattle.tree_walk.proofs.FileLemmas.{file_stops, unread_stops, whole_due}
use Rattle.tree_walk.proofs.ReadsLemmas.{read_ok, told_after}
use Rattle.tree_walk.proofs.file.whole_file_at.Goals as goal

pub returns-in-Err-clause-value : goal.returns-in-Err-clause-value
returns-in-Err-clause-value g c = λ objects told. unread_stops objects c.args.id.now start c.in-Err.fault refl (c.in-Err.ensures.value objects told)

pub returns-in-Ok-check_blocks-clause-value : goal.returns-in-Ok-check_blocks-clause-value
returns-in-Ok-check_blocks-clause-value g c = λ objects told.
    let read = read_ok objects _ _ (c.in-Ok.ensures.value objects told) in
    let done = c.in-Ok-check_blocks.ensures.value objects (told_after c.in-Ok.ensures.stays told) in
    (whole_due objects c.args.id.now c.in-Ok.file read ∙ done.0, read)

pub returns-in-Err-check_blocks-clause-value : goal.returns-in-Err-check_blocks-clause-value
returns-in-Err-check_blocks-clause-value g c = λ objects told.
    file_stops objects c.args.id.now c.in-Ok.file start c.in-Err-check_blocks.fault refl (read_ok objects _ _ (c.in-Ok.ensures.value objects told))
    (c.in-Err-check_blocks.ensures.value objects (told_after c.in-Ok.ensures.stays told))

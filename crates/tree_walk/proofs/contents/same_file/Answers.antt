-- Both files are whole; then their sizes, and their blocks.
use Rattle.tree_walk.proofs.ContentsLemmas.{compared, one_list, second_stops, two_sizes}
use Rattle.tree_walk.proofs.ReadsLemmas.{told_after}
use Rattle.tree_walk.proofs.contents.same_file.Goals as goal

pub returns-in-Err-clause-value : goal.returns-in-Err-clause-value
returns-in-Err-clause-value g c = λ objects told.
    second_stops objects c.args.left c.args.right c.in-Err.fault (c.in_ok-left_file.ensures.value objects told).0
    (c.in-Err.ensures.value objects (told_after c.in_ok-left_file.ensures.stays told))

pub returns-then-are_one-clause-value : goal.returns-then-are_one-clause-value
returns-then-are_one-clause-value g c = λ objects told.
    let l = c.in_ok-left_file.ensures.value objects told in
    let r = c.in-Ok.ensures.value objects (told_after c.in_ok-left_file.ensures.stays told) in
    one_list objects c.args.left c.args.right c.in_ok-left_file.left_file c.in-Ok.file c.slice-left_blocks.result.now c.slice-right_blocks.result.now
    (record { none = l.0; read = l.1 }) (record { none = r.0; read = r.1 }) c.slice-left_blocks.ensures.value c.slice-right_blocks.ensures.value
    (c.are_one.ensures.value.0 c.if-are_one.true)

pub returns-then-left_file-right_file-clause-value :
    goal.returns-then-left_file-right_file-clause-value
returns-then-left_file-right_file-clause-value g c = λ objects told.
    let l = c.in_ok-left_file.ensures.value objects told in
    let r = c.in-Ok.ensures.value objects (told_after c.in_ok-left_file.ensures.stays told) in
    two_sizes objects c.args.left c.args.right c.in_ok-left_file.left_file c.in-Ok.file (record { none = l.0; read = l.1 }) (record { none = r.0; read = r.1 })
    c.if-left_file-right_file.true

pub returns-clause-value : goal.returns-clause-value
returns-clause-value g c = λ objects told.
    let l = c.in_ok-left_file.ensures.value objects told in
    let r = c.in-Ok.ensures.value objects (told_after c.in_ok-left_file.ensures.stays told) in
    compared objects c.args.left c.args.right c.in_ok-left_file.left_file c.in-Ok.file c.slice-left_blocks.result.now c.slice-right_blocks.result.now c.same_blocks.result
    (record { none = l.0; read = l.1 }) (record { none = r.0; read = r.1 }) c.slice-left_blocks.ensures.value c.slice-right_blocks.ensures.value c.if-left_file-right_file.false
    (c.same_blocks.ensures.value objects (told_after c.in-Ok.ensures.stays (told_after c.in_ok-left_file.ensures.stays told)))

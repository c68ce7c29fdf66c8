-- The blocks of a whole file, joined.
use Rattle.std.proofs.Common.{◌≡◌, subst}
use Rattle.object_graph.specs.Objects.{joined}
use Rattle.tree_walk.specs.Files.{blocks_due}
use Rattle.tree_walk.specs.Reading.{Answers}
use Rattle.tree_walk.proofs.ContentsLemmas.{bytes_of_file}
use Rattle.tree_walk.proofs.ReadsLemmas.{told_after}
use Rattle.tree_walk.proofs.contents.file_bytes.Goals as goal

pub returns-clause-value : goal.returns-clause-value
returns-clause-value g c = λ objects told.
    let whole = c.in_ok-file.ensures.value objects told in
    bytes_of_file objects c.args.id c.in_ok-file.file c.join.result whole.0 whole.1
    (subst (λ ids. Answers objects (blocks_due objects ids) (λ bytes. bytes ≡ joined objects ids) c.join.result) c.slice.ensures.value
    (c.join.ensures.value objects (told_after c.in_ok-file.ensures.stays told)))

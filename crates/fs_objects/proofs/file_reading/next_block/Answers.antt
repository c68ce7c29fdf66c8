-- The item is read by what is kept of it.
use Rattle.std.proofs.Common.{ap, ◌∙◌}
use Rattle.json_words.specs.IdText.{stored_id_in}
use Rattle.fs_objects.proofs.EntryLemmas.{stored_id_in-kept}
use Rattle.fs_objects.proofs.file_reading.next_block.Goals as goal

pub returns-clause-ok : goal.returns-clause-ok
returns-clause-ok c =
    let is = c.in_ok-item.ensures.ok in
    (is.0, is.1, c.stored_id_in.ensures.value ∙ ap stored_id_in is.2 ∙ stored_id_in-kept is.0)

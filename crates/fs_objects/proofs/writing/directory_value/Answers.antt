-- The values in descending order are those of the entries in written order.
use Rattle.fs_objects.proofs.PlacingLemmas.{written_values}
use Rattle.fs_objects.proofs.writing.directory_value.Goals as goal

pub returns-clause-value : goal.returns-clause-value
returns-clause-value c =
    let same = written_values c.in_ok-by_name.by_name.entries c.in_ok-values.values.items c.args.entries.now c.in_ok-by_name.ensures.value c.in_ok-values.ensures.value in
    rw (← same) c.directory_with.ensures.value

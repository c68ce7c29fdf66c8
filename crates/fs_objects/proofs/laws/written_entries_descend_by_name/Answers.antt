use Rattle.fs_objects.proofs.DescendingLemmas.{written_names-descend}
use Rattle.fs_objects.proofs.laws.written_entries_descend_by_name.Goals as goal

pub returns : goal.returns
returns c = written_names-descend

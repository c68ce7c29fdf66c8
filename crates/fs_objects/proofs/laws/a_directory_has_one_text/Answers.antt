use Rattle.fs_objects.proofs.DescendingLemmas.{text_of-permuted}
use Rattle.fs_objects.proofs.laws.a_directory_has_one_text.Goals as goal

pub returns : goal.returns
returns c = text_of-permuted

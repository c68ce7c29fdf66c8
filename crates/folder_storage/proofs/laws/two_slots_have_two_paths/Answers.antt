-- Two slots have two paths.
use Rattle.folder_storage.proofs.PathLemmas.{slots-one}
use Rattle.folder_storage.proofs.laws.two_slots_have_two_paths.Goals as goal

pub returns : goal.returns
returns c = slots-one

-- The name of an id reads back as it.
use Rattle.std.proofs.Common.{refl}
use Rattle.folder_storage.proofs.PathLemmas.{named-read}
use Rattle.folder_storage.proofs.laws.a_path_reads_back_as_its_id.Goals as goal

pub returns : goal.returns
returns c = record {
  path = λ library key. refl;
  value = λ key found is named. named-read key.id found is named;
}

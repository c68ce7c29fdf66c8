use Rattle.object_store.proofs.IndexLemmas.{read-none}
use Rattle.object_store.proofs.key_index.read_index.Goals as goal

pub read_kind-requires : goal.read_kind-requires
read_kind-requires g c = record { ready = λ held told. read-none held.objects c.new-index.result c.new-index.ensures.value }

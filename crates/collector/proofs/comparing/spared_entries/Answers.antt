use Rattle.std.proofs.Common.{List, subst, sym}
use Rattle.ids.specs.declared.key.Key.{Key}
use Rattle.object_graph.specs.Objects.{fs_at}
use Rattle.object_store.specs.declared.error.StoreFault.TheVariants as store
use Rattle.tree_walk.proofs.ReadsLemmas.{read_ok, read_stops}
use Rattle.collector.specs.Compared.{AreAmong, Spares}
use Rattle.collector.proofs.OpeningLemmas.{named_as_read}
use Rattle.collector.proofs.comparing.spared_entries.Goals as goal

pub returns-in-Ok-spare_names-clause-value : goal.returns-in-Ok-spare_names-clause-value
returns-in-Ok-spare_names-clause-value g c = λ objects told.
    subst (λ (names : List Key). Spares names c.args.compared.now c.spare_names.new.compared)
    (sym (named_as_read objects c.args.id.now c.in-Ok.object (read_ok objects _ _ (c.in-Ok.ensures.value objects told)))) c.in-Ok-spare_names.ensures.value

pub returns-in-Ok-spare_names-clause-listed : goal.returns-in-Ok-spare_names-clause-listed
returns-in-Ok-spare_names-clause-listed g c = λ objects told.
    subst (λ (names : List Key). AreAmong names c.in-Ok-spare_names.entries.items)
    (sym (named_as_read objects c.args.id.now c.in-Ok.object (read_ok objects _ _ (c.in-Ok.ensures.value objects told)))) c.in-Ok-spare_names.ensures.listed

pub returns-in-Err-spare_names-clause-cause : goal.returns-in-Err-spare_names-clause-cause
returns-in-Err-spare_names-clause-cause g c = λ objects told. read_stops objects (fs_at objects c.args.id.now) store.NoMemory tt

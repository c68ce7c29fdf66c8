use Rattle.tree_walk.proofs.ReadsLemmas.{read_stops}
use Rattle.object_store.specs.declared.error.StoreFault.TheVariants as store
use Rattle.collector.specs.Naming.{names_of}
use Rattle.collector.proofs.NamingLemmas.{fs_names, fs_unnamed}
use Rattle.collector.proofs.naming.named_by_bytes.Goals as goal

pub returns-in-Err-clause-value : goal.returns-in-Err-clause-value
returns-in-Err-clause-value c = λ objects.
    fs_unnamed objects c.args.key.now c.args.bytes.now c.in-Err.fault c.requires.ready (c.in-Err.ensures.value objects)

pub returns-in-Err-named_in-clause-value : goal.returns-in-Err-named_in-clause-value
returns-in-Err-named_in-clause-value c = λ objects. read_stops objects (names_of c.args.key.now c.args.bytes.now) store.NoMemory tt

pub returns-in-Ok-named_in-clause-value : goal.returns-in-Ok-named_in-clause-value
returns-in-Ok-named_in-clause-value c = λ objects.
    fs_names objects c.args.key.now c.args.bytes.now c.in-Ok.object c.in-Ok-named_in.names c.requires.ready (c.in-Ok.ensures.value objects) c.in-Ok-named_in.ensures.value

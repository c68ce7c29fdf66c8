-- A stored object has its bytes; of one that isn't, what is made.
use Rattle.std.proofs.Common.{rules}
use Rattle.std.specs.Prelude.{⊤}
use Rattle.collector.proofs.OpeningLemmas.{object_gone, object_made, object_stored}
use Rattle.collector.proofs.NamingLemmas.{reads_bytes}
use Rattle.collector.proofs.comparing.object_at.Goals as goal

pub returns-in-Some-clause-value : goal.returns-in-Some-clause-value
returns-in-Some-clause-value g c = λ objects all told with.
    object_stored objects all c.args.made.now c.args.key.now c.in-Some.field-0 c.fs_at.result with c.requires.ready (c.in-Some.ensures.found objects told) (c.fs_at.ensures.value objects told)

pub returns-in-Some-get-clause-value : goal.returns-in-Some-get-clause-value
returns-in-Some-get-clause-value g c = λ objects all told with.
    object_made objects all c.args.made.now c.args.key.now c.in-Some-get.bytes.now c.fs_of.result with c.requires.ready (c.in-None.ensures.found objects told)
    c.in-Some-get.ensures.value (c.fs_of.ensures.value objects)

pub returns-in-Some-get-clause-stays : goal.returns-in-Some-get-clause-stays
returns-in-Some-get-clause-stays g c = reads_bytes {T = ⊤} tt c.fs_of.result (search rules) c.fs_of.ensures.free

pub returns-in-None-get-clause-value : goal.returns-in-None-get-clause-value
returns-in-None-get-clause-value g c = λ objects all told with.
    object_gone objects all c.args.made.now c.args.key.now with c.requires.ready (c.in-None.ensures.found objects told) c.in-None-get.ensures.value

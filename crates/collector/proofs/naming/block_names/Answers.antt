use Rattle.std.proofs.Common.{ap, is_some, sym}
use Rattle.collector.proofs.NamingLemmas.{block_gone, block_there}
use Rattle.collector.proofs.OpenedLemmas.{reads_block}
use Rattle.collector.proofs.naming.block_names.Goals as goal

pub returns-in-Some-clause-value : goal.returns-in-Some-clause-value
returns-in-Some-clause-value g c = λ objects told.
    block_there objects c.args.key.now c.new.result c.in-Some.field-0 c.requires.ready (c.in-Some.ensures.found objects told) c.new.ensures.value

pub returns-in-Some-clause-known : goal.returns-in-Some-clause-known
returns-in-Some-clause-known g c = sym (ap is_some c.in-Some.ensures.value)

pub returns-in-Some-clause-whole : goal.returns-in-Some-clause-whole
returns-in-Some-clause-whole g c = reads_block (g.S.Shelf.may_give c.args.store.now.shelf) c.args.key.now c.new.result c.requires.ready c.new.ensures.value

pub returns-in-None-clause-value : goal.returns-in-None-clause-value
returns-in-None-clause-value g c = λ objects told. block_gone objects c.args.key.now (c.in-None.ensures.found objects told)

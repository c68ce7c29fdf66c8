use Rattle.collector.proofs.NamingLemmas.{names_by_bytes, names_unread, reads_bytes, undamaged}
use Rattle.collector.proofs.OpenedLemmas.{if_any, reads_named}
use Rattle.tree_walk.proofs.ReadsLemmas.{read_ok}
use Rattle.collector.proofs.naming.names_read.Goals as goal

pub returns-in-Err-clause-value : goal.returns-in-Err-clause-value
returns-in-Err-clause-value g c = λ objects told. names_unread objects c.args.key.now c.in-Err.fault (c.in-Err.ensures.value objects told)

pub returns-clause-value : goal.returns-clause-value
returns-clause-value g c = λ objects told.
    names_by_bytes objects c.args.key.now c.in-Ok.bytes c.names_of.result (read_ok objects _ _ (c.in-Ok.ensures.value objects told)) (c.names_of.ensures.value objects)

pub returns-clause-known : goal.returns-clause-known
returns-clause-known g c = if_any c.names_of.result c.in-Ok.ensures.known

pub returns-clause-whole : goal.returns-clause-whole
returns-clause-whole g c =
    reads_named (g.S.Shelf.may_give c.bytes_at.new.store.shelf) c.args.key.now c.in-Ok.bytes c.names_of.result c.in-Ok.ensures.whole (λ objects. c.names_of.ensures.value objects)

pub returns-clause-stays : goal.returns-clause-stays
returns-clause-stays g c = reads_bytes c.in-Ok.bytes c.names_of.result c.in-Ok.ensures.stays c.names_of.ensures.free

pub returns-clause-damaged : goal.returns-clause-damaged
returns-clause-damaged g c = λ objects told. undamaged objects c.args.key.now c.names_of.result c.names_of.ensures.free

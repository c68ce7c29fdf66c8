-- A call that is to fail is counted as a fault.
use Rattle.object_store.proofs.MemoryLemmas.{begin-rose}
use Rattle.object_store.proofs.memory_shelf.MemoryShelf.keep_bytes.Goals as goal

pub returns-then-not-begin-clause-faults : goal.returns-then-not-begin-clause-faults
returns-then-not-begin-clause-faults c =
    begin-rose c.args.self.now c.begin.new.self c.begin.result c.begin.ensures.bound c.begin.ensures.value c.if-not-begin.true c.begin.ensures.ok

-- One entry's object more is named; at the end all are.
use Rattle.std.proofs.Common.{ap, arith, ◌∙◌}
use Rattle.std.proofs.lemmas.List.{take_all}
use Rattle.object_graph.specs.Reached.{entry_keys}
use Rattle.collector.proofs.NamingLemmas.{entries_next}
use Rattle.collector.proofs.naming.entry_keys.Goals as goal

pub loop-entry-preserved : goal.loop-entry-preserved
loop-entry-preserved c =
    c.in_ok-push_own.ensures.ok
    ∙ entries_next c.loop-entry.names c.args.entries.now c.loop-entry.entry-index c.entry-item.result c.loop-entry-test.true c.entry-item.is c.loop-entry.invariant

pub returns : goal.returns
returns c = record { value = c.loop-entry.invariant ∙ ap entry_keys (take_all c.loop-entry.entry-index c.args.entries.now (omega arith)) }

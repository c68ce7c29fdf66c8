use Rattle.collector.proofs.ComparedLemmas.{places_none, places_then}
use Rattle.collector.proofs.comparing.place_beside.Goals as goal

pub loop-entry-init : goal.loop-entry-init
loop-entry-init c = places_none c.args.older.now c.args.compared.now

pub loop-entry-preserved : goal.loop-entry-preserved
loop-entry-preserved c = places_then c.args.older.now c.args.compared.now c.loop-entry.compared c.place_at.new.compared c.loop-entry.invariant c.in_ok-place_at.ensures.value

pub returns : goal.returns
returns c = record { value = c.loop-entry.invariant }

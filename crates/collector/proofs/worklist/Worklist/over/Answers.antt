use Rattle.std.proofs.Common.{List, ap}
use Rattle.ids.specs.declared.key.Key.{Key}
use Rattle.collector.proofs.WorklistLemmas.{none_met_as, worklist_of}
use Rattle.collector.proofs.worklist.Worklist.over.Goals as goal

pub invariant_of-result : goal.invariant_of-result
invariant_of-result c = none_met_as c.args.order c.new.result c.requires.none c.new.ensures.value

pub returns : goal.returns
returns c = record { value = ap (λ (order : List Key). worklist_of order 0) c.requires.none }

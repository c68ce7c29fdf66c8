use Rattle.collector.proofs.WorklistLemmas.{none_waits_now, one_waits}
use Rattle.collector.proofs.worklist.Worklist.is_done.Goals as goal

pub returns-in-Some : goal.returns-in-Some
returns-in-Some c = record { value = one_waits c.args.self.now.waiting c.in-Some.field-0 c.in-Some.ensures.value }

pub returns-in-None : goal.returns-in-None
returns-in-None c = record { value = none_waits_now c.args.self.now.waiting c.in-None.ensures.value }

use Rattle.std.proofs.Common.{ap, sym, ◌∙◌}
use Rattle.collector.specs.Worklist.{all_met}
use Rattle.collector.proofs.WorklistLemmas.{all_of}
use Rattle.collector.proofs.worklist.Worklist.keys.Goals as goal

pub returns : goal.returns
returns c = record { value = c.slice.ensures.value ∙ sym (all_of c.self.inside.order c.self.inside.next) ∙ ap all_met c.self.view_is }

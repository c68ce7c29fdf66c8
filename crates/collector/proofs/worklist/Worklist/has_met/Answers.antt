-- The table knows the keys of the list, which is all that was met.
use Rattle.std.proofs.Common.{List, ap, sym, ◌∙◌}
use Rattle.ids.specs.declared.key.Key.{Key}
use Rattle.object_graph.specs.Traversal.{is_in}
use Rattle.collector.specs.Worklist.{WorklistView, all_met}
use Rattle.collector.proofs.WorklistLemmas.{all_of}
use Rattle.collector.proofs.worklist.Worklist.has_met.Goals as goal

pub returns : goal.returns
returns c = record {
  value =
      c.has.ensures.value ∙ c.self.invariant.there c.args.key.now
      ∙ ap (λ (keys : List Key). is_in keys c.args.key.now) (sym (all_of c.self.inside.order c.self.inside.next))
      ∙ ap (λ (work : WorklistView). is_in (all_met work) c.args.key.now) c.self.view_is;
}

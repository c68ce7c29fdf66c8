use Rattle.std.proofs.Common.{◌≡◌, List, ap, subst, ◌∙◌}
use Rattle.std.specs.Prelude.{IfOk}
use Rattle.ids.specs.declared.key.Key.{Key}
use Rattle.object_graph.specs.Reached.{entry_keys}
use Rattle.collector.proofs.naming.named_by_entries.Goals as goal

pub returns : goal.returns
returns c = record {
  value = subst (λ (keys : List Key). IfOk c.entry_keys.result (λ names. names ≡ keys)) (ap entry_keys (c.as_slice.ensures.value ∙ c.in_ok-entries.ensures.value)) c.entry_keys.ensures.value;
}

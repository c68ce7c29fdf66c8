-- What is listed are the entries in the order of their names.
use Rattle.std.proofs.Common.{◌∙◌, subst}
use Rattle.std.specs.Prelude.{OnOk}
use Rattle.object_graph.specs.Reached.{entry_keys}
use Rattle.tree_fetch.specs.Levels.{Adds, AreSeen, Lists}
use Rattle.tree_fetch.proofs.levels.list_directory.Goals as goal

pub returns : goal.returns
returns c = record {
  value = subst (λ entries. OnOk c.list_entries.result (Lists c.args.seen.now c.list_entries.new.seen c.args.next.now c.list_entries.new.next × AreSeen c.list_entries.new.seen entries))
      (c.as_slice.ensures.value ∙ c.in-Ok.ensures.value) c.list_entries.ensures.value;
  named = subst (λ entries. OnOk c.list_entries.result (Adds (entry_keys entries) c.args.next.now c.list_entries.new.next)) (c.as_slice.ensures.value ∙ c.in-Ok.ensures.value)
      c.list_entries.ensures.named;
}

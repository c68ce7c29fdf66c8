-- Nothing put into the empty table; then one entry more.
use Rattle.std.proofs.Common.{ap, sym, ◌∙◌}
use Rattle.std.specs.FinMap as map
use Rattle.ids.specs.MapView.{map_of}
use Rattle.object_graph.specs.Objects.{name_cmp}
use Rattle.tree_walk.proofs.OrderedLemmas.{onto, onto-empty, onto_push}
use Rattle.tree_walk.proofs.name_order.by_name.Goals as goal

pub loop-entry-init : goal.loop-entry-init
loop-entry-init c =
    (ap (λ es. onto c.args.entries.items (map.from_entries es)) c.new-table.ensures.empty ∙ onto-empty c.args.entries.items, c.new-table.ensures.ordered)

pub loop-entry-preserved : goal.loop-entry-preserved
loop-entry-preserved c = (
  ap (onto c.pop.new.self.items) (c.in_ok-insert.ensures.ok ∙ ap (λ n. map.insert (map_of name_cmp c.loop-entry.table) n c.in-Some.entry) c.in_ok-name.ensures.value)
      ∙ sym (onto_push c.pop.new.self.items c.in-Some.entry (map_of name_cmp c.loop-entry.table))
      ∙ ap (λ es. onto es (map_of name_cmp c.loop-entry.table)) (sym c.in-Some.ensures.items)
      ∙ c.loop-entry.invariant.0,
  c.insert.ensures.ordered,
)

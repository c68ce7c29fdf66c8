-- As the table is empty, all was taken.
use Rattle.std.proofs.Common.{◌≡◌, ◌++◌, ap, sym, ◌∙◌, btree_map_len, append-nil}
use Rattle.std.specs.Prelude.{map as list_map}
use Rattle.ids.proofs.MapLemmas.{entries-map_of, no_number}
use Rattle.object_graph.proofs.EntryLemmas.{names_total}
use Rattle.tree_walk.proofs.OrderedLemmas.{seconds, values_are, no_pairs}
use Rattle.tree_walk.proofs.name_order.values_of.Goals as goal

pub returns : goal.returns
returns c = record {
  value =
      let none : btree_map_len c.loop-entry.table ≡ 0 = no_number (btree_map_len c.loop-entry.table) c.in_default.ensures.variant.1 in
      sym (append-nil c.loop-entry.sorted.items)
      ∙ ap (λ ps. c.loop-entry.sorted.items ++ seconds ps) (sym (no_pairs c.loop-entry.table.entries none))
      ∙ c.loop-entry.invariant
      ∙ sym (values_are c.args.table.entries)
      ∙ ap (list_map (λ p. p.1)) (sym (entries-map_of names_total c.args.table c.requires.ordered));
}

-- What is left, put into the table, gives the table of all.
use Rattle.std.proofs.Common.{◌≡◌, vec_len}
use Rattle.std.specs.BTreeMap.{IsOrdered}
use Rattle.ids.specs.MapView.{map_of}
use Rattle.object_graph.specs.Objects.{by_name, name_cmp}
use Rattle.tree_walk.proofs.OrderedLemmas.{onto}
use Rattle.tree_walk.proofs.name_order.by_name.Given as goal

abbrev pub invariant-loop-entry : goal.invariant-loop-entry
invariant-loop-entry l = (onto l.entries.items (map_of name_cmp l.table) ≡ by_name l.fn.entries.items) × IsOrdered name_cmp l.table

abbrev pub decreases-loop-entry : goal.decreases-loop-entry
decreases-loop-entry l = vec_len l.entries

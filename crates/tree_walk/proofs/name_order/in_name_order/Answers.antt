-- Where names descend, their order is the other one.
use Rattle.tree_walk.proofs.NameOrderLemmas.{turned_values}
use Rattle.tree_walk.proofs.name_order.in_name_order.Goals as goal

pub returns-then-descend : goal.returns-then-descend
returns-then-descend c = rw (← c.directory.view_is) record {
  value =
      turned_values c.turned.result.items c.into_vec-entries.result.items c.as_slice.result.now c.directory.inside.entries c.descend.result
      c.turned.ensures.value c.into_vec-entries.ensures.value c.as_slice.ensures.value c.descend.ensures.value c.if-descend.true;
}

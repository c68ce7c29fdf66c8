-- The map has the tree's entries, in their order.
use Rattle.std.proofs.Common.{sym, ◌∙◌}
use Rattle.ids.proofs.KeyOrderLemmas.{key_cmp_total}
use Rattle.ids.proofs.MapLemmas.{entries-map_of}
use Rattle.ids.proofs.key_table.KeyTable.iter.Goals as goal

pub returns : goal.returns
returns g c = record { value = rw (← c.self.view_is) (c.iter.ensures.rest ∙ sym (entries-map_of key_cmp_total c.self.inside.held c.iter.ensures.ordered)) }

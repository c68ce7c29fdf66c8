-- The map has as many keys as the tree.
use Rattle.std.proofs.Common.{sym, ◌∙◌}
use Rattle.ids.proofs.KeyOrderLemmas.{key_cmp_total}
use Rattle.ids.proofs.MapLemmas.{len-map_of}
use Rattle.ids.proofs.key_table.KeyTable.len.Goals as goal

pub returns : goal.returns
returns g c = record { value = rw (← c.self.view_is) (c.len.ensures.len ∙ sym (len-map_of key_cmp_total c.self.inside.held c.len.ensures.ordered)) }

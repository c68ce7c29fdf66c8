-- The map sees what the tree finds.
use Rattle.std.proofs.Common.{sym, ◌∙◌}
use Rattle.ids.proofs.KeyOrderLemmas.{key_cmp_total}
use Rattle.ids.proofs.MapLemmas.{get-map_of}
use Rattle.ids.proofs.key_table.KeyTable.get.Goals as goal

pub returns : goal.returns
returns g c = record { value = rw (← c.self.view_is) (c.get.ensures.value ∙ sym (get-map_of key_cmp_total c.self.inside.held c.args.key.now)) }

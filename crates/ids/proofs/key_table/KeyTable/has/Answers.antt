-- The map sees what the tree finds.
use Rattle.std.proofs.Common.{is_some, sym, ap, ◌∙◌}
use Rattle.ids.proofs.KeyOrderLemmas.{key_cmp_total}
use Rattle.ids.proofs.MapLemmas.{get-map_of}
use Rattle.ids.proofs.key_table.KeyTable.has.Goals as goal

pub returns : goal.returns
returns g c = record { value = rw (← c.self.view_is) (c.contains_key.ensures ∙ ap is_some (sym (get-map_of key_cmp_total c.self.inside.held c.args.key.now))) }

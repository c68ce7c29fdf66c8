-- The map changes as the tree does.
use Rattle.std.proofs.Common.{sym, ◌∙◌}
use Rattle.ids.proofs.KeyOrderLemmas.{key_cmp_total, key_cmp_exact}
use Rattle.ids.proofs.MapLemmas.{get-map_of, remove-map_of}
use Rattle.ids.proofs.key_table.KeyTable.remove.Goals as goal

pub returns-clause-value : goal.returns-clause-value
returns-clause-value g c = rw (← c.self.view_is) (c.remove.ensures.value ∙ sym (get-map_of key_cmp_total c.self.inside.held c.args.key.now))

pub returns-clause-stays : goal.returns-clause-stays
returns-clause-stays g c = rw (← c.self.view_is) (remove-map_of key_cmp_total key_cmp_exact c.self.inside.held c.remove.new.self c.args.key.now c.remove.ensures.updates)

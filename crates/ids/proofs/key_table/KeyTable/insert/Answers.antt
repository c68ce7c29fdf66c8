-- The map changes as the tree does.
use Rattle.std.proofs.Common.{sym, ◌∙◌}
use Rattle.ids.proofs.KeyOrderLemmas.{key_cmp_total, key_cmp_exact}
use Rattle.ids.proofs.MapLemmas.{get-map_of, insert-map_of}
use Rattle.ids.proofs.key_table.KeyTable.insert.Goals as goal

pub returns-clause-ok : goal.returns-clause-ok
returns-clause-ok g c =
    rw (← c.self.view_is) (insert-map_of key_cmp_total key_cmp_exact c.self.inside.held c.insert.new.self c.args.key c.args.value c.in-Ok.ensures.updates)

pub returns-clause-told : goal.returns-clause-told
returns-clause-told g c = rw (← c.self.view_is) (c.in-Ok.ensures.old ∙ sym (get-map_of key_cmp_total c.self.inside.held c.args.key))

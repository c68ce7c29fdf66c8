use Rattle.std.proofs.Common.{sym, ◌∙◌}
use Rattle.tree_model.specs.PathOrder.{paths_total, paths_exact}
use Rattle.ids.proofs.MapLemmas.{get-map_of, insert-map_of}
use Rattle.tree_model.proofs.path_table.PathTable.insert.Goals as goal

pub returns-clause-ok : goal.returns-clause-ok
returns-clause-ok g c =
    rw (← c.self.view_is) (insert-map_of paths_total paths_exact c.self.inside.held c.insert.new.self c.args.path c.args.value c.in-Ok.ensures.updates)

pub returns-clause-told : goal.returns-clause-told
returns-clause-told g c = rw (← c.self.view_is) (c.in-Ok.ensures.old ∙ sym (get-map_of paths_total c.self.inside.held c.args.path))

use Rattle.std.proofs.Common.{sym, ◌∙◌}
use Rattle.tree_model.specs.PathOrder.{paths_total, paths_exact}
use Rattle.ids.proofs.MapLemmas.{get-map_of, remove-map_of}
use Rattle.tree_model.proofs.path_table.PathTable.remove.Goals as goal

pub returns-clause-value : goal.returns-clause-value
returns-clause-value g c = rw (← c.self.view_is) (c.remove.ensures.value ∙ sym (get-map_of paths_total c.self.inside.held c.args.path.now))

pub returns-clause-ok : goal.returns-clause-ok
returns-clause-ok g c =
    rw (← c.self.view_is) (remove-map_of paths_total paths_exact c.self.inside.held c.remove.new.self c.args.path.now c.remove.ensures.updates)

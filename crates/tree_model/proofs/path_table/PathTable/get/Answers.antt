use Rattle.std.proofs.Common.{sym, ◌∙◌}
use Rattle.tree_model.specs.PathOrder.{paths_total}
use Rattle.ids.proofs.MapLemmas.{get-map_of}
use Rattle.tree_model.proofs.path_table.PathTable.get.Goals as goal

pub returns : goal.returns
returns g c = record { value = rw (← c.self.view_is) (c.get.ensures.value ∙ sym (get-map_of paths_total c.self.inside.held c.args.path.now)) }

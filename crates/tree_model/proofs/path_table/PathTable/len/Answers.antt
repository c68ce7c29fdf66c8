use Rattle.std.proofs.Common.{sym, ◌∙◌}
use Rattle.tree_model.specs.PathOrder.{paths_total}
use Rattle.ids.proofs.MapLemmas.{len-map_of}
use Rattle.tree_model.proofs.path_table.PathTable.len.Goals as goal

pub returns : goal.returns
returns g c = record { value = rw (← c.self.view_is) (c.len.ensures.len ∙ sym (len-map_of paths_total c.self.inside.held c.len.ensures.ordered)) }

use Rattle.std.proofs.Common.{sym, ◌∙◌}
use Rattle.tree_model.specs.PathOrder.{paths_total}
use Rattle.ids.proofs.MapLemmas.{entries-map_of}
use Rattle.tree_model.proofs.path_table.PathTable.iter.Goals as goal

pub returns : goal.returns
returns g c = record { rest = rw (← c.self.view_is) (c.iter.ensures.rest ∙ sym (entries-map_of paths_total c.self.inside.held c.iter.ensures.ordered)) }

use Rattle.std.proofs.Common.{◌∙◌, sym, ap}
use Rattle.std.specs.FinMap as map
use Rattle.tree_model.specs.PathOrder.{paths_total, paths_exact}
use Rattle.tree_model.proofs.IfSomeLemmas.{if_some_more, if_some_both}
use Rattle.tree_model.proofs.LastEntryLemmas.{entries_first}
use Rattle.ids.proofs.MapLemmas.{get-map_of, remove-map_of}
use Rattle.tree_model.proofs.path_table.PathTable.pop_first.Goals as goal

pub returns-clause-found : goal.returns-clause-found
returns-clause-found g c =
    if_some_both c.pop_first.result
    (λ e is below. ap map.entries (sym c.self.view_is) ∙ entries_first paths_total c.self.inside.held c.pop_first.new.self e is c.pop_first.ensures.ordered below)
    c.pop_first.ensures.removal c.pop_first.ensures.all_above

pub returns-clause-ok : goal.returns-clause-ok
returns-clause-ok g c =
    if_some_more c.pop_first.result
    (λ e updates. remove-map_of paths_total paths_exact c.self.inside.held c.pop_first.new.self e.0 updates ∙ ap (λ m. map.remove m e.0) c.self.view_is)
    c.pop_first.ensures.updates

pub returns-clause-value : goal.returns-clause-value
returns-clause-value g c =
    if_some_more c.pop_first.result
    (λ e is. ap (λ m. map.get m e.0) (sym c.self.view_is) ∙ get-map_of paths_total c.self.inside.held e.0 ∙ is)
    c.pop_first.ensures.value

-- The list that was found, as a table.
use Rattle.std.proofs.Common.{sym, subst, ap, ◌∙◌}
use Rattle.std.specs.FinMap as map
use Rattle.object_graph.specs.Objects.{AreEntriesOf}
use Rattle.tree_walk.specs.Limits.{IsWithinLimits}
use Rattle.tree_walk.proofs.LimitLemmas.{within_limits}
use Rattle.tree_walk.proofs.ListingLemmas.{root_fault, root_listed}
use Rattle.tree_walk.proofs.listing.tree.Goals as goal

pub returns-in-Err-clause-value : goal.returns-in-Err-clause-value
returns-in-Err-clause-value g c = λ objects told.
    root_fault objects c.args.root c.root-path.result c.new-found.result c.in-Err.fault c.root-path.ensures.value c.new-found.ensures.value (c.in-Err.ensures.value objects told)

pub returns-in-Ok-table_of-clause-bound : goal.returns-in-Ok-table_of-clause-bound
returns-in-Ok-table_of-clause-bound g c =
    subst IsWithinLimits (sym (c.in-Ok-table_of.ensures.value ∙ ap map.from_entries c.into_entries.ensures.value)) (within_limits c.list_directory.new.found c.into_entries.ensures.bound)

pub returns-in-Ok-table_of-clause-value : goal.returns-in-Ok-table_of-clause-value
returns-in-Ok-table_of-clause-value g c = λ objects told.
    let found = root_listed objects c.args.root c.root-path.result c.new-found.result c.list_directory.new.found c.root-path.ensures.value c.new-found.ensures.value
    (c.in-Ok.ensures.value objects told) in
    (found.0, subst (AreEntriesOf objects c.args.root) (sym (c.in-Ok-table_of.ensures.value ∙ ap map.from_entries c.into_entries.ensures.value)) found.1)

use Rattle.std.proofs.Common.{sym, ◌∙◌}
use Rattle.tree_model.proofs.BelowLemmas.{parent_empty, parent_take}
use Rattle.tree_model.proofs.path.names_above.Goals as goal

pub returns-then-is_empty : goal.returns-then-is_empty
returns-then-is_empty c = record { value = parent_empty c.args.names.now (sym c.is_empty.ensures ∙ c.if-is_empty.true) }

pub returns-else-is_empty : goal.returns-else-is_empty
returns-else-is_empty c = record { value = parent_take c.args.names.now }

-- The own ids so far, with those of the changes that are left, are all.
use Rattle.std.proofs.Common.{◌≡◌, drop}
use Rattle.std.specs.FinMap as fin
use Rattle.tree_push.specs.ChangedOwns.{with_changes}
use Rattle.tree_push.proofs.own_table.changed_owns.Given as goal

abbrev pub invariant-loop-change : goal.invariant-loop-change
invariant-loop-change l = with_changes l.owns l.seens (drop l.change-index l.changes) ≡ with_changes fin.empty l.seens l.changes

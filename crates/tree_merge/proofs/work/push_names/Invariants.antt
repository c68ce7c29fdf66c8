use Rattle.std.proofs.Common.{◌≡◌, ◌++◌, take}
use Rattle.tree_merge.proofs.work.push_names.Given as goal

abbrev pub invariant-loop-name : goal.invariant-loop-name
invariant-loop-name l = l.whole ≡ l.initial.whole ++ take l.name-index l.names

use Rattle.std.specs.FinMap as fin
use Rattle.tree_push.specs.ChangedOwns.{entry_by}
use Rattle.tree_push.proofs.MappedLemmas.{IsMapped}
use Rattle.tree_push.proofs.offered_entries.offered_entries.Given as goal

abbrev pub invariant-loop-path : goal.invariant-loop-path
invariant-loop-path l = IsMapped (λ path seen. entry_by l.moment l.user (fin.get l.owns path) (fin.get l.knowns path) seen) l.paths l.entries l.path-iterator

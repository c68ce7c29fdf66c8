-- Something was changed where the list of changes has one, and the own ids are made of that list.
use Rattle.std.proofs.Common.{List, subst, sym}
use Rattle.local_index.specs.ScanChanges.{AreChanges}
use Rattle.local_index.specs.declared.scan_changes.Change.{Change}
use Rattle.sync_daemon.proofs.ChangeLemmas.{tells_change}
use Rattle.sync_daemon.proofs.scanning.find_changes.Goals as goal

pub returns : goal.returns
returns c = record {
  value = tells_change c.is_empty.result c.in_ok-changes.changes c.args.report.now c.args.index.now c.is_empty.ensures.value c.in_ok-changes.ensures.value;
  ids = c.in_ok-owns.ensures.value c.args.index.now.entries
      (subst (λ (l : List Change). AreChanges c.args.report.now.paths c.args.index.now.entries l) (sym c.slice.ensures.value) c.in_ok-changes.ensures.value);
}

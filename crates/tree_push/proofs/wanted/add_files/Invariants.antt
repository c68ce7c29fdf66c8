-- The files so far are wanted, whatever is known where these are the own ids of those that are new or changed.
use Rattle.tree_push.specs.ChangedOwns.{AreChangedOwns}
use Rattle.tree_push.specs.OfferedEntries.{KnownPaths}
use Rattle.tree_push.specs.Wanted.{Grows}
use Rattle.tree_push.proofs.WantedLemmas.{IsAddingFiles}
use Rattle.tree_push.proofs.wanted.add_files.Given as goal

abbrev pub invariant-loop-path : goal.invariant-loop-path
invariant-loop-path l = record {
  grows : Grows l.fn.wanted l.wanted;
  adding : (knowns : KnownPaths) → AreChangedOwns knowns l.paths l.owns → IsAddingFiles knowns l.paths l.path-iterator l.fn.wanted l.wanted;
}

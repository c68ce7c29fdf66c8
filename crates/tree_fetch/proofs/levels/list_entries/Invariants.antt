-- What was seen so far, with the rest of the entries, is all.
use Rattle.object_graph.specs.Reached.{entry_keys}
use Rattle.tree_fetch.specs.Levels.{Adds, Lists}
use Rattle.tree_fetch.proofs.LevelLemmas.{EntriesLeft}
use Rattle.tree_fetch.proofs.levels.list_entries.Given as goal

abbrev pub invariant-loop-entry : goal.invariant-loop-entry
invariant-loop-entry l = record {
  lists : Lists l.initial.seen l.seen l.initial.next l.next;
  adds : Adds (entry_keys l.entries) l.initial.next l.next;
  left : EntriesLeft l.entries l.entry-index l.seen;
}

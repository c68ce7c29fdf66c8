-- What was listed so far, with the rest of the ids, is all.
use Rattle.std.proofs.Common.{◌≡◌}
use Rattle.tree_fetch.specs.Levels.{Lists}
use Rattle.tree_fetch.proofs.LevelLemmas.{IdsLeft, NamesMore}
use Rattle.tree_fetch.proofs.levels.next_level.Given as goal

abbrev pub invariant-loop-id : goal.invariant-loop-id
invariant-loop-id l = record {
  stays : l.held ≡ l.initial.held;
  lists : Lists l.initial.seen l.seen l.initial.next l.next;
  named : NamesMore l.initial.held l.ids l.initial.next l.next;
  left : IdsLeft l.initial.held l.ids l.id-index l.seen;
}

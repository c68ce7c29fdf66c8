-- What was made so far, with what is made of the rest, is all.
use Rattle.std.proofs.Common.{◌≡◌}
use Rattle.sync_daemon.proofs.LoopLemmas.{MadeLeft}
use Rattle.sync_daemon.proofs.tree_writes.writes_of.Given as goal

abbrev pub invariant-loop-due : goal.invariant-loop-due
invariant-loop-due l = record {
  stays : l.objects ≡ l.initial.objects;
  made : MadeLeft l.initial.objects l.dues l.due-index l.writes;
}

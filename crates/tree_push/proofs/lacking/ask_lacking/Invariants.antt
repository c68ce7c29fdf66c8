-- The lists so far were asked for.
use Rattle.std.proofs.Common.{◌≡◌, length}
use Rattle.tree_push.proofs.TraceLemmas.{IsAsking}
use Rattle.tree_push.proofs.lacking.ask_lacking.Given as goal

abbrev pub invariant-loop-left : goal.invariant-loop-left
invariant-loop-left g l = record {
  peer : g.R.Remote.peer l.remote ≡ g.R.Remote.peer l.fn.remote;
  asking : IsAsking l.library l.kind l.ids l.left l.fn.lacking l.lacking (g.R.Remote.sends l.fn.remote) (g.R.Remote.sends l.remote);
}

abbrev pub decreases-loop-left : goal.decreases-loop-left
decreases-loop-left g l = length l.left

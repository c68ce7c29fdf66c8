-- The objects so far were put, or are in the batch.
use Rattle.std.proofs.Common.{◌≡◌}
use Rattle.std.specs.FinMap as fin
use Rattle.tree_push.specs.Asking.{Ran, PutsAmong}
use Rattle.tree_push.specs.Lacking.{has_key}
use Rattle.tree_push.specs.Puts.{IsBatch}
use Rattle.tree_push.proofs.PutsLemmas.{IsLeft}
use Rattle.tree_push.proofs.puts.put_objects.Given as goal

abbrev pub invariant-loop-key : goal.invariant-loop-key
invariant-loop-key g l = record {
  peer : g.R.Remote.peer l.remote ≡ g.R.Remote.peer l.fn.remote;
  rows : IsBatch l.batch.rows l.batch.size;
  ran : Ran l.library (PutsAmong (has_key l.lacking)) (IsLeft l.made (fin.keys l.lacking) l.key-iterator l.batch.rows) (g.R.Remote.sends l.fn.remote) (g.R.Remote.sends l.remote);
}

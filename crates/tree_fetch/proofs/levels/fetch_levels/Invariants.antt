-- So many levels were got.
use Rattle.std.proofs.Common.{◌≡◌}
use Rattle.object_graph.specs.Reached.{own_keys}
use Rattle.tree_fetch.specs.Fetching.{Fetching}
use Rattle.tree_fetch.specs.Levels.{AreReached, IsUpTo}
use Rattle.tree_fetch.proofs.levels.fetch_levels.Given as goal

abbrev pub invariant-levels : goal.invariant-levels
invariant-levels g l = record {
  peer : g.R.Remote.peer l.remote ≡ g.R.Remote.peer l.initial.remote;
  fetching : Fetching l.asker (own_keys l.root) (g.R.Remote.sends l.initial.remote) (g.R.Remote.sends l.remote) l.held;
  reached : AreReached (own_keys l.root) l.held l.ids;
  up : IsUpTo l.root l._level l.held l.seen l.ids;
}

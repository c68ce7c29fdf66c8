-- The keys so far are not fresh.
use Rattle.std.proofs.Common.{◌&&◌, not, take}
use Rattle.std.specs.FinSet as set
use Rattle.object_graph.specs.Traversal.{is_in}
use Rattle.depot.specs.Fresh.{HasFresh}
use Rattle.depot.proofs.collection.Collection.stale.Given as goal

abbrev pub invariant-loop-key : goal.invariant-loop-key
invariant-loop-key l = HasFresh (λ k. set.contains l.initial.self.running.fresh k && not (is_in (take l.key-index l.keys) k)) l.initial.self l.self

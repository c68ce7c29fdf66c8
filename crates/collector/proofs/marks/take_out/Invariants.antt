-- The keys so far are taken out.
use Rattle.std.proofs.Common.{◌≡◌, ◌&&◌, not, take}
use Rattle.ids.specs.declared.key.Key.{Key}
use Rattle.object_graph.specs.Traversal.{is_in}
use Rattle.collector.specs.Sweeping.{is_listed}
use Rattle.collector.proofs.marks.take_out.Given as goal

abbrev pub invariant-loop-key : goal.invariant-loop-key
invariant-loop-key l = (key : Key) → is_listed l.candidates key ≡ (is_listed l.fn.candidates key && not (is_in (take l.key-index l.keys) key))

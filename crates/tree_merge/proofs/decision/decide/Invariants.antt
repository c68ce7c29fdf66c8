use Rattle.std.proofs.Common.{◌≡◌, ◌+◌, ◌≤◌, [], None, Some, IsSome, Ok}
use Rattle.std.specs.Prelude.{⊤}
use Rattle.std.specs.FinMap as map
use Rattle.ids.specs.Key.{Objects}
use Rattle.tree_model.specs.Path.{PathV}
use Rattle.tree_model.specs.DirectorySurvival.{Sides}
use Rattle.object_graph.specs.Unchanged.{Keeps}
use Rattle.object_store.specs.StoreView.{objects_of}
use Rattle.tree_walk.specs.Reading.{Reads}
use Rattle.tree_merge.specs.Compared.{AreCompared, StayCompared}
use Rattle.tree_merge.specs.Decision.{IsWholeDecided}
use Rattle.tree_merge.specs.FileChoice.{IsWholeAt}
use Rattle.tree_merge.specs.Sides.{AreSeen, AreTrees}
use Rattle.tree_merge.proofs.DecisionLemmas.{DecidedSo}
use Rattle.tree_merge.proofs.decision.decide.Given as goal

abbrev pub invariant-loop-path : goal.invariant-loop-path
invariant-loop-path g l = record {
  reads : Reads {T = ⊤} g.S.Shelf.contents g.S.Shelf.may_give g.S.Shelf.texts g.S.Shelf.faults l.initial.store l.store (Ok tt);
  left : (q : PathV) → IsSome (map.get l.joined q) → map.get l.joined q ≡ map.get l.initial.joined q;
  leavers : map.len l.decided.leavers + map.len l.joined ≤ map.len l.initial.joined;
  known : map.len l.decided.known + map.len l.joined ≤ map.len l.initial.joined;
  root : map.get l.initial.joined [] ≡ None → map.get l.decided.leavers [] ≡ None;
  whole : (objects : Objects) → ((path : PathV) → IsWholeAt objects (map.get l.initial.joined path)) → IsWholeDecided objects l.decided;
  compared : StayCompared (objects_of g.S.Shelf.contents l.initial.store) l.initial.compared l.compared;
  decided : (objects : Objects) → objects_of g.S.Shelf.contents l.initial.store ≡ Some objects → AreCompared objects l.initial.compared → (more : Objects) → Keeps objects more
      → ((path : PathV) → IsWholeAt objects (map.get l.initial.joined path)) → (s : Sides) → AreTrees s → AreSeen more l.initial.joined s → DecidedSo more s l.joined l.staying l.decided;
}

abbrev pub decreases-loop-path : goal.decreases-loop-path
decreases-loop-path g l = map.len l.joined

use Rattle.std.proofs.Common.{◌≡◌, ◌+◌, ◌≤◌, [], None}
use Rattle.std.specs.FinMap as map
use Rattle.ids.specs.Key.{Objects}
use Rattle.tree_model.specs.DirectorySurvival.{Sides}
use Rattle.tree_merge.specs.Sides.{AreTrees}
use Rattle.tree_merge.specs.Decision.{AreWholeFiles, AreWholeIn, IsDecided, IsWholeDecided}
use Rattle.tree_merge.proofs.ConflictLemmas.{NamedSo}
use Rattle.tree_merge.proofs.conflict_copies.name_leavers.Given as goal

abbrev pub invariant-loop-path : goal.invariant-loop-path
invariant-loop-path l = record {
  root : map.get l.leavers [] ≡ None;
  fits : map.len l.known + map.len l.leavers ≤ 4_000_000_000;
  whole : (objects : Objects) → IsWholeDecided objects l.fn.decided → AreWholeIn objects l.nodes × AreWholeFiles objects l.leavers;
  named : (objects : Objects) (s : Sides) → AreTrees s → IsDecided objects s l.fn.decided → NamedSo objects s l.leavers l.known l.nodes l.copies;
}

abbrev pub decreases-loop-path : goal.decreases-loop-path
decreases-loop-path l = map.len l.leavers

use Rattle.std.proofs.Common.{◌≡◌}
use Rattle.local_folder.proofs.marker.has_path_in.Given as goal

-- looks change nothing
abbrev pub invariant-loop-name : goal.invariant-loop-name
invariant-loop-name g l = record {
  stays : g.C.DirectoryCalls.steps l.calls ≡ g.C.DirectoryCalls.steps l.fn.calls;
}

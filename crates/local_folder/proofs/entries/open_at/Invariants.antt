use Rattle.std.proofs.Common.{◌≡◌, IsTrue, take}
use Rattle.local_folder.proofs.entries.open_at.Given as goal

-- the directory at the names that were passed
abbrev pub invariant-loop-name : goal.invariant-loop-name
invariant-loop-name g l = record {
  stays : g.C.DirectoryCalls.steps l.calls ≡ g.C.DirectoryCalls.steps l.fn.calls;
  told : IsTrue (g.C.DirectoryCalls.stands_at l.dir (take l.name-index l.names));
}

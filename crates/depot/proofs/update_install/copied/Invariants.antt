-- The head updates so far.
use Rattle.std.proofs.Common.{◌≡◌, take}
use Rattle.depot.proofs.update_install.copied.Given as goal

abbrev pub invariant-loop-install : goal.invariant-loop-install
invariant-loop-install l = l.history ≡ take l.install-index l.kept

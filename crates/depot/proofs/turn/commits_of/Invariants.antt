-- The commits of the head updates so far.
use Rattle.std.proofs.Common.{◌≡◌, take}
use Rattle.library_rules.specs.LibraryState.{kept_commits}
use Rattle.depot.proofs.turn.commits_of.Given as goal

abbrev pub invariant-loop-install : goal.invariant-loop-install
invariant-loop-install l = l.commits ≡ kept_commits (take l.install-index l.kept)

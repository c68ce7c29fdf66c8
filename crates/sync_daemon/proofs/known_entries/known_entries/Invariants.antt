-- What is known so far, with what is still left, is all.
use Rattle.tree_push.proofs.MappedLemmas.{IsMapped}
use Rattle.sync_daemon.specs.Bringing.{known_of, own_at}
use Rattle.sync_daemon.proofs.known_entries.known_entries.Given as goal

abbrev pub invariant-loop-path : goal.invariant-loop-path
invariant-loop-path l = IsMapped (λ path entry. known_of (own_at l.scan l.written path) entry) l.entries l.known l.path-iterator

-- What is known so far, with what is still left, is all.
use Rattle.std.specs.FinMap as fin
use Rattle.tree_push.proofs.MappedLemmas.{IsMapped}
use Rattle.sync_daemon.specs.Bringing.{known_by}
use Rattle.sync_daemon.proofs.own_head.known_offer.Given as goal

abbrev pub invariant-loop-path : goal.invariant-loop-path
invariant-loop-path l = IsMapped (λ path seen. known_by l.moment l.user (fin.get l.owns path) (fin.get l.knowns path) seen) l.seens l.known l.path-iterator

-- What is left decides.
use Rattle.std.proofs.Common.{◌≡◌}
use Rattle.std.specs.FinMap as fin
use Rattle.std.specs.List.{list_all}
use Rattle.sync_daemon.specs.InterruptedCheckout.{are_left_seen, is_left_seen}
use Rattle.sync_daemon.proofs.interrupted_checkout.are_left_seen.Given as goal

abbrev pub invariant-loop-path : goal.invariant-loop-path
invariant-loop-path l =
    list_all (λ item. is_left_seen item.1 (fin.get l.knowns item.0) (fin.get l.owns item.0) (fin.get l.entries item.0)) l.path-iterator ≡ are_left_seen l.seens l.knowns l.owns l.entries

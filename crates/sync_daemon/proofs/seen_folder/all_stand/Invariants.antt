-- What is left decides.
use Rattle.std.proofs.Common.{◌≡◌}
use Rattle.std.specs.List.{list_all}
use Rattle.sync_daemon.specs.SeenFolder.{all_stand, stands_in}
use Rattle.sync_daemon.proofs.seen_folder.all_stand.Given as goal

abbrev pub invariant-loop-path : goal.invariant-loop-path
invariant-loop-path l = list_all (λ entry. stands_in l.seens entry.0) l.path-iterator ≡ all_stand l.seens

-- What is left decides.
use Rattle.std.proofs.Common.{◌≡◌}
use Rattle.std.specs.List.{list_all}
use Rattle.sync_daemon.specs.SeenFolder.{has_file_mode, have_file_modes}
use Rattle.sync_daemon.proofs.seen_folder.have_file_modes.Given as goal

abbrev pub invariant-loop-known : goal.invariant-loop-known
invariant-loop-known l = list_all (λ entry. has_file_mode entry.1) l.known-iterator ≡ have_file_modes l.knowns

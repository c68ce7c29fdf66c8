-- The ears so far came back.
use Rattle.std.proofs.Common.{◌≡◌, ◌++◌, map, take}
use Rattle.link_ears.specs.Ear.{counts_sum}
use Rattle.link_ears.proofs.tcp_net.TcpNet.note_back.Given as goal

abbrev pub invariant-loop-ear : goal.invariant-loop-ear
invariant-loop-ear g l = record {
  back : map (λ entry. entry.0) l.self.back.items ≡ map (λ entry. entry.0) l.initial.self.back.items ++ take l.ear-index l.ears;
  faults : l.self.faults ≡ counts_sum l.initial.self.faults (map (λ ear. ear.faults) (take l.ear-index l.ears));
  asked : l.self.asked ≡ l.initial.self.asked;
}

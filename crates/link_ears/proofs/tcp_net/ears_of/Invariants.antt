-- So many ears are made, all new.
use Rattle.std.proofs.Common.{◌≡◌, All, length, map}
use Rattle.link_ears.specs.Ear.{IsNewEar}
use Rattle.link_ears.proofs.tcp_net.ears_of.Given as goal

abbrev pub invariant-loop-made : goal.invariant-loop-made
invariant-loop-made l = record {
  count : length l.ears ≡ l._made;
  fresh : All (λ ear. IsNewEar (record { gave = map (λ entry. entry.0) ear.gave.items; left = ear.left; over = ear.over }) ear.back.items ear.faults l.connections) l.ears;
}

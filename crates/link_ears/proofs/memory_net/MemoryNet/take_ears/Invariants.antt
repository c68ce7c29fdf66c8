-- Those so far are new ears, and the lists that are left are as long as all were.
use Rattle.std.proofs.Common.{◌≡◌, ◌+◌, ◌≤◌, ℕ, All, map, vec_capacity, vec_len}
use Rattle.link_ears.specs.Ear.{IsNewEar}
use Rattle.link_ears.proofs.memory_net.MemoryNet.take_ears.Given as goal

abbrev pub invariant-loop-links : goal.invariant-loop-links
invariant-loop-links g l = record {
  size : vec_len l.ears + vec_len l.self.rest ≡ vec_len l.initial.self.rest;
  room : vec_len l.ears + vec_len l.self.rest ≤ vec_capacity l.ears;
  fresh : (connections : ℕ) → All (λ links. vec_len links ≡ connections) l.initial.self.rest.items
      → All (λ links. vec_len links ≡ connections) l.self.rest.items
      × All (λ ear. IsNewEar (record { gave = map (λ entry. entry.0) ear.gave.items; left = vec_len ear.rest; over = ear.over }) ear.back.items ear.faults connections) l.ears.items;
  stays : l.self ≡ record l.initial.self { rest = l.self.rest };
}

abbrev pub decreases-loop-links : goal.decreases-loop-links
decreases-loop-links g l = vec_len l.self.rest

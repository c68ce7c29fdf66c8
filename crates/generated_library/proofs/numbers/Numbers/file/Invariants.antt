-- So many bytes were drawn.
use Rattle.std.proofs.Common.{◌≡◌, ◌-◌, ◌≤◌, ◌++◌, vec_capacity, vec_len}
use Rattle.generated_library.specs.Generated.{drawn_bytes, file_size, next_number, number_after}
use Rattle.generated_library.proofs.numbers.Numbers.file.Given as goal

abbrev pub invariant-loop-i : goal.invariant-loop-i
invariant-loop-i l = record {
  size : vec_len l.bytes ≡ l._i;
  room : l.size ≤ vec_capacity l.bytes;
  rest : l.bytes.items ++ drawn_bytes (l.size - l._i) l.self.now ≡ drawn_bytes l.size (next_number l.fn.self.now);
  number : number_after (l.size - l._i) l.self.now ≡ number_after l.size (next_number l.fn.self.now);
  whole : l.size ≡ file_size l.fn.self.now;
}

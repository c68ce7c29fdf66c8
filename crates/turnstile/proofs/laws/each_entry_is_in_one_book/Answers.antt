use Rattle.std.proofs.Common.{◌<◌, length, sym, ◌∙◌, arith}
use Rattle.turnstile.proofs.ListsLemmas.{prefix_length}
use Rattle.turnstile.proofs.laws.each_entry_is_in_one_book.Goals as goal

pub returns : goal.returns
returns g c = record {
  once = λ k s r i v at.
      let f = r.each i v at in
      let first = prefix_length v.seen r.history f.seen_first in
      (f.once, λ p here. let own = f.booked p here in let below : p < length v.seen = own.0 in omega arith);
  apart = λ k s r i j v w p at at' here here'. sym ((r.each i v at).booked p here).1 ∙ ((r.each j w at').booked p here').1;
  found = λ k s r p below. let t = r.made p below in (r.maker p, t.0, t.1, t.2);
}

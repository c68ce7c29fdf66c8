-- What was given so far, and then what is left, make the whole; there is room for each row; they fit so far.
use Rattle.std.proofs.Common.{◌≡◌, ◌≤◌, List, [], drop, length, vec_len, vec_capacity}
use Rattle.http_front.specs.declared.outcome.Outcome.{Outcome}
use Rattle.worker_server.specs.Calls.{GetsEach, most_packed, packed_size, rules_at}
use Rattle.worker_server.proofs.asking.get_each.Given as goal

abbrev pub invariant-loop-id : goal.invariant-loop-id
invariant-loop-id g l = record {
  is_ready : g.H.Host.ready l.host l.pass;
  goes_on : (o : Outcome) (more : List g.H.Host.Operation) (v : g.H.Host.View) → GetsEach (rules_at (g.H.Host.shows l.host) g.H.Host.asks g.H.Host.spares g.H.Host.collects g.H.Host.looks) l.lib l.secret (g.H.Host.view l.pass) (drop l.id-index l.ids) l.rows.items o more v
      → (operations : List g.H.Host.Operation) × GetsEach (rules_at (g.H.Host.shows l.host) g.H.Host.asks g.H.Host.spares g.H.Host.collects g.H.Host.looks) l.fn.lib l.fn.secret (g.H.Host.view l.fn.pass) l.ids [] o operations v;
  room : length l.ids ≤ vec_capacity l.rows;
  count : vec_len l.rows ≡ l.id-index;
  size : l.packed ≡ packed_size l.rows.items;
  within : l.packed ≤ most_packed;
}

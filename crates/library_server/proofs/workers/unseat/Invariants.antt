-- The workers so far are joined, and told.
use Rattle.std.proofs.Common.{◌≡◌, ◌+◌, ◌≤◌, All, List, ◌++◌, map, reverse, sum_by, vec_capacity, vec_len}
use Rattle.hall_workers.specs.declared.worker.Worker.{Worker}
use Rattle.sync_calls.specs.Hall.{AreReady, PassOf, drawn_by, made_with, shares_of, shown_by}
use Rattle.library_server.specs.Port.{AreJoinOf, ReadNoMore, tally_of}
use Rattle.library_server.proofs.workers.unseat.Given as goal

abbrev pub invariant-loop-worker : goal.invariant-loop-worker
invariant-loop-worker g l = (done : List (Worker (PassOf g.row.S.Denot) g.row.E.Denot)) × record {
  all : done ++ reverse l.workers.items ≡ reverse l.initial.workers.items;
  ready : AreReady g.S.Shelf.contents g.S.Shelf.may_give g.S.Shelf.texts g.S.Shelf.faults l.hall l.last;
  left : All (λ w. AreReady g.S.Shelf.contents g.S.Shelf.may_give g.S.Shelf.texts g.S.Shelf.faults l.hall w.pass) l.workers.items;
  room : vec_len l.ears + vec_len l.workers ≤ vec_capacity l.ears;
  ears : l.ears.items ≡ map (λ w. w.ear) done;
  tally : l.tally ≡ tally_of done;
  joined : AreJoinOf (shown_by l.fn.last) (map (λ w. shown_by w.pass) done) (shown_by l.last);
  drawn : All (λ w. ReadNoMore (drawn_by w.pass) (drawn_by l.last)) done;
  size : (shares_of l.last ≡ shares_of l.fn.last + sum_by (λ w. shares_of w.pass) done) × (made_with l.last ≡ made_with l.fn.last);
}

abbrev pub decreases-loop-worker : goal.decreases-loop-worker
decreases-loop-worker g l = vec_len l.workers

-- The links so far were served, and nothing stops the worker.
use Rattle.link_ears.specs.Ear.{link_seen}
use Rattle.hall_workers.specs.Workers.{WorksYet, worker_seen}
use Rattle.hall_workers.proofs.working.work.Given as goal

abbrev pub invariant-loop : goal.invariant-loop
invariant-loop g l = record {
  ready : g.H.Serves.ready l.hall l.worker.pass;
  yet : WorksYet (g.H.Serves.serves l.hall (g.C.Clock.shows l.clock)) (link_seen g.E.L.Link.left g.E.L.Link.taken g.E.L.Link.given g.E.L.Link.asked g.E.L.Link.faults)
      (worker_seen g.E.Ear.tells g.E.Ear.back g.E.Ear.faults l.fn.worker) (worker_seen g.E.Ear.tells g.E.Ear.back g.E.Ear.faults l.worker);
}

-- One link more, or the end.
use Rattle.link_ears.specs.Ear.{link_seen}
use Rattle.hall_workers.specs.Workers.{worker_seen}
use Rattle.hall_workers.proofs.WorkingLemmas.{stops_all, works_all, works_more, works_none}
use Rattle.hall_workers.proofs.working.work.Goals as goal

pub loop-init : goal.loop-init
loop-init g c = record {
  ready = c.requires.ready;
  yet = works_none (g.H.Serves.serves c.args.hall.now (g.C.Clock.shows c.args.clock.now)) (link_seen g.E.L.Link.left g.E.L.Link.taken g.E.L.Link.given g.E.L.Link.asked g.E.L.Link.faults)
      (worker_seen g.E.Ear.tells g.E.Ear.back g.E.Ear.faults c.args.worker.now);
}

pub loop-preserved : goal.loop-preserved
loop-preserved g c = record {
  ready = c.serve_next.ensures.ready;
  yet = works_more (g.H.Serves.serves c.args.hall.now (g.C.Clock.shows c.args.clock.now)) (link_seen g.E.L.Link.left g.E.L.Link.taken g.E.L.Link.given g.E.L.Link.asked g.E.L.Link.faults)
      (worker_seen g.E.Ear.tells g.E.Ear.back g.E.Ear.faults c.args.worker.now) (worker_seen g.E.Ear.tells g.E.Ear.back g.E.Ear.faults c.loop.worker)
      (worker_seen g.E.Ear.tells g.E.Ear.back g.E.Ear.faults c.serve_next.new.worker) c.loop.invariant.yet c.in-None-serve_next.ensures.next;
}

pub returns-in-Some-serve_next : goal.returns-in-Some-serve_next
returns-in-Some-serve_next g c =
    let serves = g.H.Serves.serves c.args.hall.now (g.C.Clock.shows c.args.clock.now) in
    let seen = link_seen g.E.L.Link.left g.E.L.Link.taken g.E.L.Link.given g.E.L.Link.asked g.E.L.Link.faults in
    let old = worker_seen g.E.Ear.tells g.E.Ear.back g.E.Ear.faults c.args.worker.now in
    let mid = worker_seen g.E.Ear.tells g.E.Ear.back g.E.Ear.faults c.loop.worker in
    let new = worker_seen g.E.Ear.tells g.E.Ear.back g.E.Ear.faults c.serve_next.new.worker in
    record {
      ready = c.serve_next.ensures.ready;
      works = works_all serves seen old mid new c.in-Some-serve_next.ending c.loop.invariant.yet c.in-Some-serve_next.ensures.next;
      stops = stops_all serves seen old mid new c.in-Some-serve_next.ending c.loop.invariant.yet c.in-Some-serve_next.ensures.next;
    }

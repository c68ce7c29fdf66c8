-- A link more was served; or the ear is over, or failed.
use Rattle.std.proofs.Common.{Ok, Option, refl, subst}
use Rattle.link_ears.specs.Ear.{Accepts, link_seen}
use Rattle.hall_workers.specs.Workers.{worker_seen}
use Rattle.hall_workers.proofs.WorkingLemmas.{ended_now, failed_now, one_more}
use Rattle.hall_workers.proofs.working.serve_next.Goals as goal

pub returns-in-Some-clause-next : goal.returns-in-Some-clause-next
returns-in-Some-clause-next g c =
    one_more (g.H.Serves.serves c.args.hall.now (g.C.Clock.shows c.args.clock.now)) (link_seen g.E.L.Link.left g.E.L.Link.taken g.E.L.Link.given g.E.L.Link.asked g.E.L.Link.faults)
    (worker_seen g.E.Ear.tells g.E.Ear.back g.E.Ear.faults c.args.worker.now)
    (record {
      pass = c.args.worker.now.pass;
      tells = g.E.Ear.tells c.accept.new.self;
      back = g.E.Ear.back c.accept.new.self;
      faults = g.E.Ear.faults c.accept.new.self;
      served = c.has_room.new.served.items;
    })
    (worker_seen g.E.Ear.tells g.E.Ear.back g.E.Ear.faults c.serve_one.new.worker) c.in-Some.link
    (subst (λ (o : Option g.row.E-L.Denot). Accepts (g.E.Ear.tells c.args.worker.now.ear) (g.E.Ear.tells c.accept.new.self) (Ok o)) c.in-Some.is c.in-Ok.ensures.told) refl c.in-Ok.ensures.stays c.has_room.ensures.items c.in-Ok.ensures.faults
    c.serve_one.ensures.given

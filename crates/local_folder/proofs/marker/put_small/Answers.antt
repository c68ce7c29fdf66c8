use Rattle.local_folder.proofs.StepLemmas.{small-put, small-unmade}
use Rattle.local_folder.proofs.marker.put_small.Goals as goal

pub returns-in-Ok : goal.returns-in-Ok
returns-in-Ok g c = record {
  order =
      small-put c.in-Ok.spare c.args.name.now c.args.bytes.now (g.C.DirectoryCalls.steps c.args.calls.now) (g.C.DirectoryCalls.steps c.new_spare.new.calls) (g.C.DirectoryCalls.steps c.fill_small.new.calls)
      c.fill_small.result c.in-Ok.ensures.order c.fill_small.ensures.order;
}

pub returns-in-Err : goal.returns-in-Err
returns-in-Err g c = record {
  order = small-unmade c.args.name.now c.args.bytes.now (g.C.DirectoryCalls.steps c.args.calls.now) (g.C.DirectoryCalls.steps c.new_spare.new.calls) c.in-Err.ensures.order;
}

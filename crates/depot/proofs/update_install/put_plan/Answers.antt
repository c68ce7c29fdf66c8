-- The directories are put first, and then the head.
use Rattle.std.specs.FinMap as map
use Rattle.object_store.specs.StoreView.{objects_of}
use Rattle.depot.specs.Plan.{listed, own_object}
use Rattle.depot.proofs.UpdateInstallLemmas.{named_back, named_front, puts_stops, puts_then, puttable_back, puttable_front}
use Rattle.depot.proofs.update_install.put_plan.Goals as goal

pub put_dirs-requires-clause-named : goal.put_dirs-requires-clause-named
put_dirs-requires-clause-named g c = named_front (listed (map.entries c.args.plan.now.dirs)) (own_object c.args.plan.now.head c.args.plan.now.text) c.requires.named

pub put_dirs-requires-clause-ready : goal.put_dirs-requires-clause-ready
put_dirs-requires-clause-ready g c =
    puttable_front (objects_of g.S.Shelf.contents c.args.store.now) (listed (map.entries c.args.plan.now.dirs)) (own_object c.args.plan.now.head c.args.plan.now.text) c.requires.ready

pub put_text-requires-clause-named : goal.put_text-requires-clause-named
put_text-requires-clause-named g c = named_back (listed (map.entries c.args.plan.now.dirs)) (own_object c.args.plan.now.head c.args.plan.now.text) c.requires.named

pub put_text-requires-clause-ready : goal.put_text-requires-clause-ready
put_text-requires-clause-ready g c =
    puttable_back (objects_of g.S.Shelf.contents c.args.store.now) (objects_of g.S.Shelf.contents c.put_dirs.new.store)
    (listed (map.entries c.args.plan.now.dirs)) (own_object c.args.plan.now.head c.args.plan.now.text) c.requires.ready c.in-Ok.ensures.value.objects

pub returns-in-Err : goal.returns-in-Err
returns-in-Err g c = record {
  value = puts_stops (listed (map.entries c.args.plan.now.dirs)) (own_object c.args.plan.now.head c.args.plan.now.text) c.in-Err.fault c.in-Err.ensures.value;
}

pub returns : goal.returns
returns g c = record {
  value = puts_then (listed (map.entries c.args.plan.now.dirs)) (own_object c.args.plan.now.head c.args.plan.now.text) c.put_text.result c.in-Ok.ensures.value c.put_text.ensures.value;
}

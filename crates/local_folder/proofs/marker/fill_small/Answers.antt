use Rattle.std.proofs.Common.{◌∷◌}
use Rattle.local_folder.specs.Steps.{SyncedFile, Wrote, named_small}
use Rattle.local_folder.proofs.StepLemmas.{first-failed, more-done, more-stopped}
use Rattle.local_folder.proofs.marker.fill_small.Goals as goal

pub returns-in-Err : goal.returns-in-Err
returns-in-Err g c = record {
  order =
      first-failed (Wrote c.args.bytes.now) (SyncedFile ∷ named_small c.args.name.now) (g.C.DirectoryCalls.steps c.args.calls.now) (g.C.DirectoryCalls.steps c.write.new.self) c.in-Err.ensures.order;
}

pub returns-in-Err-sync_file : goal.returns-in-Err-sync_file
returns-in-Err-sync_file g c = record {
  order =
      more-stopped (Wrote c.args.bytes.now) (SyncedFile ∷ named_small c.args.name.now) (g.C.DirectoryCalls.steps c.args.calls.now) (g.C.DirectoryCalls.steps c.write.new.self)
      (g.C.DirectoryCalls.steps c.sync_file.new.self) c.in_default.ensures.order
      (first-failed SyncedFile (named_small c.args.name.now) (g.C.DirectoryCalls.steps c.write.new.self) (g.C.DirectoryCalls.steps c.sync_file.new.self) c.in-Err-sync_file.ensures.order);
}

pub returns : goal.returns
returns g c = record {
  order =
      more-done (Wrote c.args.bytes.now) (SyncedFile ∷ named_small c.args.name.now) (g.C.DirectoryCalls.steps c.args.calls.now) (g.C.DirectoryCalls.steps c.write.new.self)
      (g.C.DirectoryCalls.steps c.name_small.new.calls) c.name_small.result c.in_default.ensures.order
      (more-done SyncedFile (named_small c.args.name.now) (g.C.DirectoryCalls.steps c.write.new.self) (g.C.DirectoryCalls.steps c.sync_file.new.self) (g.C.DirectoryCalls.steps c.name_small.new.calls)
      c.name_small.result c.in_default-sync_file.ensures.order c.name_small.ensures.order);
}

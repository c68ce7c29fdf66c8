use Rattle.std.proofs.Common.{◌∷◌, ◌++◌, []}
use Rattle.local_folder.specs.Steps.{Removed, SyncedNames}
use Rattle.local_folder.proofs.StepLemmas.{first-failed, last-done, more-done}
use Rattle.local_folder.proofs.changes.remove_in.Goals as goal

pub returns-in-Err : goal.returns-in-Err
returns-in-Err g c = record {
  order = λ path at.
      first-failed (Removed (path ++ c.args.name.now ∷ [])) (SyncedNames path ∷ [])
      (g.C.DirectoryCalls.steps c.args.calls.now) (g.C.DirectoryCalls.steps c.remove_entry.new.calls) (c.in-Err.ensures.order path at);
}

pub returns : goal.returns
returns g c = record {
  order = λ path at.
      more-done (Removed (path ++ c.args.name.now ∷ [])) (SyncedNames path ∷ [])
      (g.C.DirectoryCalls.steps c.args.calls.now) (g.C.DirectoryCalls.steps c.remove_entry.new.calls) (g.C.DirectoryCalls.steps c.sync_names.new.self)
      c.sync_names.result (c.in_default.ensures.order path at)
      (last-done (SyncedNames path) (g.C.DirectoryCalls.steps c.remove_entry.new.calls) (g.C.DirectoryCalls.steps c.sync_names.new.self) c.sync_names.result (c.sync_names.ensures.order path at));
}

use Rattle.std.proofs.Common.{◌∷◌, ◌++◌, []}
use Rattle.local_folder.specs.Steps.{Moved, SyncedNames, spare_path}
use Rattle.local_folder.proofs.StepLemmas.{done-named, first-named, last-done}
use Rattle.local_folder.proofs.changes.move_into.Goals as goal

pub returns-in-Err : goal.returns-in-Err
returns-in-Err g c = record {
  order = λ path at.
      first-named (λ n. Moved spare_path (path ++ n ∷ [])) c.as_str.result.now c.args.name.now (SyncedNames path ∷ [])
      (g.C.DirectoryCalls.steps c.args.calls.now) (g.C.DirectoryCalls.steps c.rename.new.self) c.as_str.ensures.value
      (c.in-Err.ensures.order [] path c.requires.root at);
}

pub returns : goal.returns
returns g c = record {
  order = λ path at.
      done-named (λ n. Moved spare_path (path ++ n ∷ [])) c.as_str.result.now c.args.name.now (SyncedNames path ∷ [])
      (g.C.DirectoryCalls.steps c.args.calls.now) (g.C.DirectoryCalls.steps c.rename.new.self) (g.C.DirectoryCalls.steps c.sync_names.new.self)
      c.sync_names.result c.as_str.ensures.value (c.in_default.ensures.order [] path c.requires.root at)
      (last-done (SyncedNames path) (g.C.DirectoryCalls.steps c.rename.new.self) (g.C.DirectoryCalls.steps c.sync_names.new.self) c.sync_names.result (c.sync_names.ensures.order path at));
}

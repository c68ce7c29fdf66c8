use Rattle.std.proofs.Common.{◌∷◌, []}
use Rattle.local_folder.specs.Marker.{marker_name}
use Rattle.local_folder.specs.Steps.{Removed, SyncedNames}
use Rattle.local_folder.proofs.StepLemmas.{first-failed, last-done, more-done}
use Rattle.local_folder.proofs.marker.take_marker.Goals as goal

pub returns-in-Err : goal.returns-in-Err
returns-in-Err g c = record {
  order =
      first-failed (Removed (marker_name ∷ [])) (SyncedNames [] ∷ []) (g.C.DirectoryCalls.steps c.args.calls.now) (g.C.DirectoryCalls.steps c.remove_file.new.self)
      (c.in-Err.ensures.order [] c.requires.root);
}

pub returns : goal.returns
returns g c = record {
  order =
      more-done (Removed (marker_name ∷ [])) (SyncedNames [] ∷ []) (g.C.DirectoryCalls.steps c.args.calls.now) (g.C.DirectoryCalls.steps c.remove_file.new.self)
      (g.C.DirectoryCalls.steps c.sync_names.new.self) c.sync_names.result (c.in_default.ensures.order [] c.requires.root)
      (last-done (SyncedNames []) (g.C.DirectoryCalls.steps c.remove_file.new.self) (g.C.DirectoryCalls.steps c.sync_names.new.self) c.sync_names.result (c.sync_names.ensures.order [] c.requires.root));
}

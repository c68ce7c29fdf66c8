use Rattle.std.proofs.Common.{◌∷◌, []}
use Rattle.local_folder.specs.Steps.{Moved, SyncedNames, named_small, spare_path}
use Rattle.local_folder.proofs.StepLemmas.{done-after, done-named, first-named, last-done, none-done, stopped-after}
use Rattle.local_folder.proofs.marker.name_small.Goals as goal

pub returns-in-Err : goal.returns-in-Err
returns-in-Err g c = record {
  order = none-done (named_small c.args.name.now) (g.C.DirectoryCalls.steps c.args.calls.now) (g.C.DirectoryCalls.steps c.takes_file.new.calls) c.takes_file.ensures.stays;
}

pub returns-in-Err-rename : goal.returns-in-Err-rename
returns-in-Err-rename g c = record {
  order = stopped-after (named_small c.args.name.now) (g.C.DirectoryCalls.steps c.args.calls.now) (g.C.DirectoryCalls.steps c.takes_file.new.calls) (g.C.DirectoryCalls.steps c.rename.new.self)
      c.takes_file.ensures.stays
      (first-named (λ n. Moved spare_path (n ∷ [])) c.as_str.result.now c.args.name.now (SyncedNames [] ∷ [])
      (g.C.DirectoryCalls.steps c.takes_file.new.calls) (g.C.DirectoryCalls.steps c.rename.new.self) c.as_str.ensures.value
      (c.in-Err-rename.ensures.order [] [] c.requires.root c.requires.root));
}

pub returns : goal.returns
returns g c = record {
  order = done-after (named_small c.args.name.now) (g.C.DirectoryCalls.steps c.args.calls.now) (g.C.DirectoryCalls.steps c.takes_file.new.calls) (g.C.DirectoryCalls.steps c.sync_names.new.self)
      c.sync_names.result c.takes_file.ensures.stays
      (done-named (λ n. Moved spare_path (n ∷ [])) c.as_str.result.now c.args.name.now (SyncedNames [] ∷ [])
      (g.C.DirectoryCalls.steps c.takes_file.new.calls) (g.C.DirectoryCalls.steps c.rename.new.self) (g.C.DirectoryCalls.steps c.sync_names.new.self)
      c.sync_names.result c.as_str.ensures.value (c.in_default-rename.ensures.order [] [] c.requires.root c.requires.root)
      (last-done (SyncedNames []) (g.C.DirectoryCalls.steps c.rename.new.self) (g.C.DirectoryCalls.steps c.sync_names.new.self) c.sync_names.result (c.sync_names.ensures.order [] c.requires.root)));
}

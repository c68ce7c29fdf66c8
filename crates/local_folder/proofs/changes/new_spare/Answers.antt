use Rattle.std.proofs.Common.{◌∷◌, [], inr}
use Rattle.local_folder.specs.Steps.{Created, Removed, spare_path}
use Rattle.local_folder.proofs.StepLemmas.{emptied-first, first-failed}
use Rattle.local_folder.proofs.changes.new_spare.Goals as goal

pub returns-in-Err : goal.returns-in-Err
returns-in-Err g c = record {
  order = inr (first-failed (Removed spare_path) (Created spare_path ∷ []) (g.C.DirectoryCalls.steps c.args.calls.now) (g.C.DirectoryCalls.steps c.sweep.new.calls) c.in-Err.ensures.only);
}

pub returns : goal.returns
returns g c = record {
  order =
      emptied-first (g.C.DirectoryCalls.steps c.args.calls.now) (g.C.DirectoryCalls.steps c.sweep.new.calls) (g.C.DirectoryCalls.steps c.create.new.self)
      c.create.result c.in_default.ensures.only (c.create.ensures.order [] c.requires.root);
}

use Rattle.std.proofs.Common.{◌∷◌, ◌∙◌, [], refl}
use Rattle.local_folder.specs.Steps.{Moved, SyncedNames, spare_path, moved_in}
use Rattle.local_folder.proofs.StepLemmas.{none-done, on-path}
use Rattle.local_folder.proofs.changes.move_spare.Goals as goal

pub returns-then-is_spare : goal.returns-then-is_spare
returns-then-is_spare g c = record { order = none-done (moved_in c.args.names.now) (g.C.DirectoryCalls.steps c.args.calls.now) (g.C.DirectoryCalls.steps c.args.calls.now) refl }

pub returns-in-None : goal.returns-in-None
returns-in-None g c = record { order = none-done (moved_in c.args.names.now) (g.C.DirectoryCalls.steps c.args.calls.now) (g.C.DirectoryCalls.steps c.args.calls.now) refl }

pub returns-in-Err : goal.returns-in-Err
returns-in-Err g c = record { order = none-done (moved_in c.args.names.now) (g.C.DirectoryCalls.steps c.args.calls.now) (g.C.DirectoryCalls.steps c.open_at.new.calls) c.in-Err.ensures.stays }

pub returns-in-Err-takes_file : goal.returns-in-Err-takes_file
returns-in-Err-takes_file g c = record { order = none-done (moved_in c.args.names.now) (g.C.DirectoryCalls.steps c.args.calls.now) (g.C.DirectoryCalls.steps c.takes_file.new.calls) (c.in-Err-takes_file.ensures.stays ∙ c.in-Ok.ensures.stays) }

pub returns-in_default : goal.returns-in_default
returns-in_default g c = record {
  order =
      on-path (λ above path. Moved spare_path path ∷ SyncedNames above ∷ []) c.in-Some.above.now c.args.names.now c.in-Some.name.now
      (g.C.DirectoryCalls.steps c.args.calls.now) (g.C.DirectoryCalls.steps c.takes_file.new.calls) (g.C.DirectoryCalls.steps c.move_into.new.calls) c.move_into.result
      c.in-Some.ensures.cases.0 (c.in_default.ensures.stays ∙ c.in-Ok.ensures.stays) (c.move_into.ensures.order c.in-Some.above.now c.in-Ok.ensures.told);
}

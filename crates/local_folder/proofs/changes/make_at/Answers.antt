use Rattle.std.proofs.Common.{◌∷◌, [], refl}
use Rattle.local_folder.specs.Steps.{MadeDirectory, SyncedNames, made}
use Rattle.local_folder.proofs.StepLemmas.{none-done, on-path}
use Rattle.local_folder.proofs.changes.make_at.Goals as goal

pub returns-then-is_spare : goal.returns-then-is_spare
returns-then-is_spare g c = record { order = none-done (made c.args.names.now) (g.C.DirectoryCalls.steps c.args.calls.now) (g.C.DirectoryCalls.steps c.args.calls.now) refl }

pub returns-in-None : goal.returns-in-None
returns-in-None g c = record { order = none-done (made c.args.names.now) (g.C.DirectoryCalls.steps c.args.calls.now) (g.C.DirectoryCalls.steps c.args.calls.now) refl }

pub returns-in-Err : goal.returns-in-Err
returns-in-Err g c = record { order = none-done (made c.args.names.now) (g.C.DirectoryCalls.steps c.args.calls.now) (g.C.DirectoryCalls.steps c.open_at.new.calls) c.in-Err.ensures.stays }

pub returns-in-Ok : goal.returns-in-Ok
returns-in-Ok g c = record {
  order =
      on-path (λ above path. MadeDirectory path ∷ SyncedNames above ∷ []) c.in-Some.above.now c.args.names.now c.in-Some.name.now
      (g.C.DirectoryCalls.steps c.args.calls.now) (g.C.DirectoryCalls.steps c.open_at.new.calls) (g.C.DirectoryCalls.steps c.make_in.new.calls) c.make_in.result
      c.in-Some.ensures.cases.0 c.in-Ok.ensures.stays (c.make_in.ensures.order c.in-Some.above.now c.in-Ok.ensures.told);
}

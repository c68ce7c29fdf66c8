use Rattle.std.proofs.Common.{◌≡◌, ◌+◌, ◌++◌, [], ◌∷◌, map, take, inr, ap, refl, sym, ◌∙◌, arith}
use Rattle.std.proofs.lemmas.List.{take_all, take_more}
use Rattle.folder_storage.specs.Durability.{SyncedObject, with_steps}
use Rattle.folder_storage.proofs.DurabilityLemmas.{objects-only, no-steps, one-more}
use Rattle.folder_storage.proofs.durability.sync_each_object.Goals as goal

pub loop-key-init : goal.loop-key-init
loop-key-init g c = (no-steps (g.D.Disk.steps c.args.disk.now), refl)

pub returns-in-Err-clause-err : goal.returns-in-Err-clause-err
returns-in-Err-clause-err g c =
    objects-only (g.D.Disk.steps c.args.disk.now) (g.D.Disk.steps c.loop-key.disk) (g.D.Disk.steps c.sync_object.new.self) (take c.loop-key.key-index c.args.keys.now)
    c.loop-key.invariant.0 c.in-Err.ensures.err

pub returns-in-Err-clause-cause : goal.returns-in-Err-clause-cause
returns-in-Err-clause-cause g c = inr c.in-Err.ensures.cause

pub returns-in-Err-clause-count : goal.returns-in-Err-clause-count
returns-in-Err-clause-count g c = c.sync_object.ensures.count ∙ c.loop-key.invariant.1

pub loop-key-preserved : goal.loop-key-preserved
loop-key-preserved g c =
    let keys = c.args.keys.now in
    let place = c.loop-key.key-index in
    let item = c.key-item.result in
    let more : take (place + 1) keys ≡ take place keys ++ item ∷ [] = take_more keys place item c.loop-key-test.true ∙ ap (λ y. take place keys ++ y ∷ []) (sym c.key-item.is) in (
      one-more SyncedObject (g.D.Disk.steps c.args.disk.now) (g.D.Disk.steps c.loop-key.disk) (g.D.Disk.steps c.sync_object.new.self) (take place keys) (take (place + 1) keys) item
          more c.loop-key.invariant.0 c.in_default.ensures.ok,
      c.sync_object.ensures.count ∙ c.loop-key.invariant.1,
    )

pub returns-clause-ok : goal.returns-clause-ok
returns-clause-ok g c =
    c.loop-key.invariant.0
    ∙ ap (λ list. with_steps (g.D.Disk.steps c.args.disk.now) (map SyncedObject list)) (take_all c.loop-key.key-index c.args.keys.now (omega (arith, c.loop-key-test.false)))

pub returns-clause-count : goal.returns-clause-count
returns-clause-count g c = c.loop-key.invariant.1

use Rattle.std.proofs.Common.{◌≡◌, ◌+◌, ◌++◌, [], ◌∷◌, map, take, ap, refl, sym, ◌∙◌, subst, arith}
use Rattle.std.proofs.lemmas.List.{take_all, take_more}
use Rattle.folder_storage.specs.Durability.{In, PutObject, with_steps}
use Rattle.folder_storage.proofs.DurabilityLemmas.{among-more, no-steps}
use Rattle.folder_storage.proofs.ToldDiskLemmas.{put-more, puts-only}
use Rattle.folder_storage.proofs.laws.put_all.Goals as goal

pub loop-key-init : goal.loop-key-init
loop-key-init g c = (no-steps (g.D.Disk.steps c.args.disk.now), (λ key is. absurd is), (λ order. order), refl)

pub returns-in-Err-clause-err : goal.returns-in-Err-clause-err
returns-in-Err-clause-err g c =
    puts-only (g.D.Disk.steps c.args.disk.now) (g.D.Disk.steps c.loop-key.disk) (g.D.Disk.steps c.put_object.new.disk)
    (take c.loop-key.key-index c.args.keys.now) c.key-item.result c.loop-key.invariant.0 c.in-Err.ensures.err

pub returns-in-Err-clause-order : goal.returns-in-Err-clause-order
returns-in-Err-clause-order g c order = c.put_object.ensures.order (c.loop-key.invariant.2 order)

pub loop-key-preserved : goal.loop-key-preserved
loop-key-preserved g c =
    let keys = c.args.keys.now in
    let place = c.loop-key.key-index in
    let item = c.key-item.result in
    let more : take (place + 1) keys ≡ take place keys ++ item ∷ [] = take_more keys place item c.loop-key-test.true ∙ ap (λ y. take place keys ++ y ∷ []) (sym c.key-item.is) in (
      put-more (g.D.Disk.steps c.args.disk.now) (g.D.Disk.steps c.loop-key.disk) (g.D.Disk.steps c.put_object.new.disk) (take place keys) (take (place + 1) keys) item
          more c.loop-key.invariant.0 c.in_default.ensures.ok,
      among-more (take place keys) (take (place + 1) keys) c.loop-key.unsynced.keys.items c.put_object.new.self.keys.items item more
          c.loop-key.invariant.1 c.put_object.ensures.listed c.in_default.ensures.found,
      (λ order. c.put_object.ensures.order (c.loop-key.invariant.2 order)),
      c.put_object.ensures.count ∙ c.loop-key.invariant.3,
    )

pub returns-clause-ok : goal.returns-clause-ok
returns-clause-ok g c =
    c.loop-key.invariant.0
    ∙ ap (λ list. with_steps (g.D.Disk.steps c.args.disk.now) (map PutObject list)) (take_all c.loop-key.key-index c.args.keys.now (omega (arith, c.loop-key-test.false)))

pub returns-clause-listed : goal.returns-clause-listed
returns-clause-listed g c key is = c.loop-key.invariant.1 key (subst (In key) (sym (take_all c.loop-key.key-index c.args.keys.now (omega (arith, c.loop-key-test.false)))) is)

pub returns-clause-order : goal.returns-clause-order
returns-clause-order g c = c.loop-key.invariant.2

pub returns-in-Err-clause-cause : goal.returns-in-Err-clause-cause
returns-in-Err-clause-cause g c = c.in-Err.ensures.cause

pub returns-in-Err-clause-count : goal.returns-in-Err-clause-count
returns-in-Err-clause-count g c = c.put_object.ensures.count ∙ c.loop-key.invariant.3

pub returns-clause-count : goal.returns-clause-count
returns-clause-count g c = c.loop-key.invariant.3

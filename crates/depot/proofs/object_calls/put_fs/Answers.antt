-- Bytes that are refused leave nothing.
use Rattle.std.proofs.Common.{inl, refl}
use Rattle.ids.specs.declared.key.Kind.TheVariants as kinds
use Rattle.depot.proofs.GivingLemmas.{put_as}
use Rattle.depot.proofs.object_calls.put_fs.Goals as goal
use Rattle.depot.proofs.object_calls.put_fs.Goals.{in-Ok, in-Err-Bad, in-Err-NoMemory}

pub returns-clause-lying : goal.returns-clause-lying
returns-clause-lying g c =
    elim c.match-read.branch [
      | in-Ok w ↦ rw (w.result-is, w.store-is) w.store_object.ensures.lying
      | in-Err-Bad w ↦ rw (w.result-is, w.store-is) (λ free key stray. stray)
      | in-Err-NoMemory w ↦ rw (w.result-is, w.store-is) (λ free key stray. stray)
    ]

pub returns-clause-gives : goal.returns-clause-gives
returns-clause-gives g c =
    elim c.match-read.branch [
      | in-Ok w ↦ rw w.store-is (put_as c.args.key.now c.args.bytes.now kinds.Fs c.requires.ready tt w.store_object.ensures.gives)
      | in-Err-Bad w ↦ rw w.store-is (λ slot given is. inl is)
      | in-Err-NoMemory w ↦ rw w.store-is (λ slot given is. inl is)
    ]

pub returns-clause-held : goal.returns-clause-held
returns-clause-held g c =
    elim c.match-read.branch [
      | in-Ok w ↦ rw (w.result-is, w.store-is) w.store_object.ensures.held
      | in-Err-Bad w ↦ rw (w.result-is, w.store-is) refl
      | in-Err-NoMemory w ↦ rw (w.result-is, w.store-is) refl
    ]

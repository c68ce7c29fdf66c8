use Rattle.std.proofs.Common.{◌+◌, map, take, inr, ap, refl, ◌∙◌, arith}
use Rattle.std.proofs.lemmas.List.{take_all, take_more}
use Rattle.folder_storage.specs.Durability.{SyncedDirectory, with_steps}
use Rattle.folder_storage.proofs.DurabilityLemmas.{directories-only, no-steps, one-more}
use Rattle.folder_storage.proofs.durability.sync_each_directory.Goals as goal

pub loop-directory-init : goal.loop-directory-init
loop-directory-init g c = (no-steps (g.D.Disk.steps c.args.disk.now), refl)

pub returns-in-Err-clause-err : goal.returns-in-Err-clause-err
returns-in-Err-clause-err g c =
    directories-only (g.D.Disk.steps c.args.disk.now) (g.D.Disk.steps c.loop-directory.disk) (g.D.Disk.steps c.sync_directory.new.self) (take c.loop-directory.directory-index c.args.directories.now)
    c.loop-directory.invariant.0 c.in-Err.ensures.err

pub returns-in-Err-clause-cause : goal.returns-in-Err-clause-cause
returns-in-Err-clause-cause g c = inr c.in-Err.ensures.cause

pub returns-in-Err-clause-count : goal.returns-in-Err-clause-count
returns-in-Err-clause-count g c = c.sync_directory.ensures.count ∙ c.loop-directory.invariant.1

pub loop-directory-preserved : goal.loop-directory-preserved
loop-directory-preserved g c =
    let directories = c.args.directories.now in
    let place = c.loop-directory.directory-index in (
      one-more SyncedDirectory (g.D.Disk.steps c.args.disk.now) (g.D.Disk.steps c.loop-directory.disk) (g.D.Disk.steps c.sync_directory.new.self) (take place directories) (take (place + 1) directories) _
          (take_more directories place _ c.loop-directory-test.true) c.loop-directory.invariant.0 c.in_default.ensures.ok,
      c.sync_directory.ensures.count ∙ c.loop-directory.invariant.1,
    )

pub returns-clause-ok : goal.returns-clause-ok
returns-clause-ok g c =
    c.loop-directory.invariant.0
    ∙ ap (λ list. with_steps (g.D.Disk.steps c.args.disk.now) (map SyncedDirectory list)) (take_all c.loop-directory.directory-index c.args.directories.now (omega (arith, c.loop-directory-test.false)))

pub returns-clause-count : goal.returns-clause-count
returns-clause-count g c = c.loop-directory.invariant.1

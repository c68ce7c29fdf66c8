use Rattle.std.proofs.Common.{◌∙◌, inl, subst, sym}
use Rattle.folder_storage.specs.Durability.{AreNamedIn}
use Rattle.folder_storage.proofs.DurabilityLemmas.{made-durable}
use Rattle.folder_storage.proofs.durability.make_durable.Goals as goal

pub returns-in-Err-clause-cause : goal.returns-in-Err-clause-cause
returns-in-Err-clause-cause g c = inl c.from.ensures

pub returns-in-Err-sync_objects-clause-cause : goal.returns-in-Err-sync_objects-clause-cause
returns-in-Err-sync_objects-clause-cause g c = c.in-Err-sync_objects.ensures.cause

pub returns-clause-value : goal.returns-clause-value
returns-clause-value g c =
    made-durable (g.D.Disk.steps c.args.disk.now) (g.D.Disk.steps c.sync_objects.new.disk) (g.D.Disk.steps c.sync_directories.new.disk) c.args.keys.now
    c.as_slice.result.now c.sync_directories.result (subst (AreNamedIn c.args.keys.now) (sym c.as_slice.ensures.value) c.in-Ok.ensures.named)
    c.in_default.ensures.ok c.sync_directories.ensures.ok c.sync_directories.ensures.err

pub returns-clause-cause : goal.returns-clause-cause
returns-clause-cause g c = c.sync_directories.ensures.cause

pub returns-clause-count : goal.returns-clause-count
returns-clause-count g c = c.sync_directories.ensures.count ∙ c.sync_objects.ensures.count

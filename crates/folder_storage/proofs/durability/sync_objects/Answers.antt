use Rattle.std.proofs.Common.{◌∙◌, inr, map}
use Rattle.folder_storage.specs.Durability.{SyncedObject}
use Rattle.folder_storage.proofs.DurabilityLemmas.{begun-err, begun-ok, none-synced}
use Rattle.folder_storage.proofs.durability.sync_objects.Goals as goal

pub returns-in-Err-clause-err : goal.returns-in-Err-clause-err
returns-in-Err-clause-err g c = none-synced (g.D.Disk.steps c.args.disk.now) (g.D.Disk.steps c.begin_files.new.self) c.begin_files.ensures.stays

pub returns-clause-ok : goal.returns-clause-ok
returns-clause-ok g c =
    begun-ok (g.D.Disk.steps c.args.disk.now) (g.D.Disk.steps c.begin_files.new.self) (g.D.Disk.steps c.sync_each_object.new.disk) (map SyncedObject c.args.keys.now)
    c.sync_each_object.result c.begin_files.ensures.stays c.sync_each_object.ensures.ok

pub returns-clause-err : goal.returns-clause-err
returns-clause-err g c =
    begun-err (g.D.Disk.steps c.args.disk.now) (g.D.Disk.steps c.begin_files.new.self) (g.D.Disk.steps c.sync_each_object.new.disk)
    c.sync_each_object.result c.begin_files.ensures.stays c.sync_each_object.ensures.err

pub returns-in-Err-clause-cause : goal.returns-in-Err-clause-cause
returns-in-Err-clause-cause g c = inr c.in-Err.ensures.cause

pub returns-clause-cause : goal.returns-clause-cause
returns-clause-cause g c = c.sync_each_object.ensures.cause

pub returns-clause-count : goal.returns-clause-count
returns-clause-count g c = c.sync_each_object.ensures.count ∙ c.begin_files.ensures.count

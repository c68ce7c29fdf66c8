use Rattle.std.proofs.Common.{refl}
use Rattle.folder_storage.proofs.told_disk.ToldDiskDisk.sync_directory.Goals as goal

pub returns-clause-cause : goal.returns-clause-cause
returns-clause-cause c = c.pass_noted.ensures.cause

pub returns-clause-count : goal.returns-clause-count
returns-clause-count c = c.pass_noted.ensures.count refl

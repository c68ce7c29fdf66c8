use Rattle.std.proofs.Common.{inl, refl}
use Rattle.folder_storage.proofs.told_disk.ToldDiskDisk.gather.Goals as goal

pub returns-in-Err-clause-cause : goal.returns-in-Err-clause-cause
returns-in-Err-clause-cause c = inl c.from.ensures

pub returns-clause-cause : goal.returns-clause-cause
returns-clause-cause c = c.pass_noted.ensures.cause

pub returns-clause-count : goal.returns-clause-count
returns-clause-count c = c.pass_noted.ensures.count refl

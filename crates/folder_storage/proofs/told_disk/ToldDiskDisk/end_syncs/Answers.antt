use Rattle.std.proofs.Common.{subst, sym}
use Rattle.folder_storage.specs.ToldDisk.{EndsAt}
use Rattle.folder_storage.proofs.ToldDiskLemmas.{total-end}
use Rattle.folder_storage.proofs.told_disk.ToldDiskDisk.end_syncs.Goals as goal

pub returns-clause-cause : goal.returns-clause-cause
returns-clause-cause c kind told = subst (EndsAt kind) (sym c.note.ensures.stays) told

pub returns-clause-count : goal.returns-clause-count
returns-clause-count c =
    total-end c.args.self.now.done.items c.note.new.self.done.items c.args.is_synced c.args.self.now.left c.note.new.self.left c.note.ensures.told c.note.ensures.stays

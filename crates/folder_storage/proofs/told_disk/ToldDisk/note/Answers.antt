use Rattle.folder_storage.proofs.ToldDiskLemmas.{noted-more}
use Rattle.folder_storage.proofs.told_disk.ToldDisk.note.Goals as goal

pub returns-clause-told : goal.returns-clause-told
returns-clause-told c = noted-more c.args.self.now.done.items c.and-self.result.items c.args.done.now c.args.self.now.left c.and-self.ensures

use Rattle.folder_storage.proofs.LibraryFolderLemmas.{takes-out}
use Rattle.folder_storage.proofs.library_folder.take_out.Goals as goal

pub returns-in-Ok : goal.returns-in-Ok
returns-in-Ok c = record {
  after = takes-out c.args.key.now c.args.keys.now.items c.deref.result.now c.remove.new.self.items c.in-Ok.place c.deref.ensures.value c.in-Ok.ensures.ok c.remove.ensures.items;
}

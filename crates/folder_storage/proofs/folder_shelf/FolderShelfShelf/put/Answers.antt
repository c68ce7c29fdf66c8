use Rattle.std.proofs.Common.{is_ok, subst, sym}
use Rattle.folder_storage.specs.Durability.{In, StaysListed}
use Rattle.folder_storage.proofs.LibraryFolderLemmas.{puts-into}
use Rattle.folder_storage.proofs.folder_shelf.FolderShelfShelf.put.Goals as goal

pub returns-in_ok-way-in-Object-clause-stays : goal.returns-in_ok-way-in-Object-clause-stays
returns-in_ok-way-in-Object-clause-stays g c =
    subst (λ slot. StaysListed slot c.args.self.now.unsynced.keys.items c.put_object-put.new.self.keys.items) (sym c.in-Object.is)
    (λ key is. c.put_object-put.ensures.listed key (subst (In key) (sym c.write_beside-written.ensures.stays) is))

pub returns-in_ok-way-in-Object-clause-folder : goal.returns-in_ok-way-in-Object-clause-folder
returns-in_ok-way-in-Object-clause-folder g c =
    puts-into c.args.slot c.in-Object.key c.args.bytes.now (is_ok c.counted.result) (is_ok c.put_object-put.result) c.args.self.now.folder
    c.write_beside-written.new.folder c.put_object-put.new.disk c.in-Object.is c.counted.ensures.fails c.write_beside-written.ensures.folder c.put_object-put.ensures.after

use Rattle.folder_side.specs.Folder.{Contents}
use Rattle.folder_side.proofs.FolderLemmas.{IsFolder-nameless}
use Rattle.folder_side.proofs.memory_contents.MemoryContents.set_nameless.Goals as goal

pub invariant_of-self-2 : goal.invariant_of-self-2
invariant_of-self-2 c =
    let whole : Contents = record { paths = c.self.inside.paths; nameless = c.self.inside.nameless } in
    rw c.in_ok-insert.ensures.ok (IsFolder-nameless whole c.args.dir c.args.count c.self.invariant (rw c.self.view_is c.requires.fits))

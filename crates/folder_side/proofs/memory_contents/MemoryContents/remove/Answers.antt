use Rattle.std.proofs.Common.{sym, subst}
use Rattle.folder_side.specs.Folder.{Contents, IsRemovable, at}
use Rattle.folder_side.proofs.FolderLemmas.{IsFolder-without}
use Rattle.folder_side.proofs.memory_contents.MemoryContents.remove.Goals as goal

pub invariant_of-self : goal.invariant_of-self
invariant_of-self c =
    let whole : Contents = record { paths = c.self.inside.paths; nameless = c.self.inside.nameless } in
    let can : IsRemovable whole c.args.path.now (at whole c.args.path.now) =
    subst (λ (x : Contents). IsRemovable x c.args.path.now (at x c.args.path.now)) (sym c.self.view_is) c.requires.fits in
    rw c.remove.ensures.ok (IsFolder-without whole c.args.path.now c.self.invariant can)

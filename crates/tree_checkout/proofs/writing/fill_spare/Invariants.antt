use Rattle.std.proofs.Common.{◌≡◌, false, take}
use Rattle.tree_checkout.specs.Touches.{TouchesNone}
use Rattle.tree_checkout.proofs.WritingLemmas.{Filling}
use Rattle.tree_checkout.proofs.writing.fill_spare.Given as goal

abbrev pub invariant-loop-block : goal.invariant-loop-block
invariant-loop-block g l = record {
  told : g.F.Folder.told l.folder ≡ g.F.Folder.told l.fn.folder;
  faults : g.F.Folder.faults l.folder ≡ g.F.Folder.faults l.fn.folder;
  quiet : TouchesNone (g.F.Folder.trace l.fn.folder) (g.F.Folder.trace l.folder);
  alive : l.chunker.failed ≡ false;
  peer : g.R.Remote.peer l.remote ≡ g.R.Remote.peer l.fn.remote;
  filling : Filling l.source l.file l.fn.cuts (take l.block-index l.file.object.blocks) l.left (g.R.Remote.sends l.fn.remote) (g.R.Remote.sends l.remote)
      (g.F.Folder.told l.fn.folder) (g.F.Folder.spare l.folder) l.chunker l.names;
}

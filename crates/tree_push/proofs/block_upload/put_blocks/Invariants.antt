-- The chunks so far were met.
use Rattle.std.proofs.Common.{◌≡◌, ◌≤◌, ◌-◌, ℕ, List, Some, false}
use Rattle.folder_side.specs.Calls.{Glances}
use Rattle.folder_side.specs.Folder.{Contents, at}
use Rattle.folder_side.specs.declared.holding.Holding.TheVariants.{File}
use Rattle.tree_push.specs.SentOnce.{TakesOnce}
use Rattle.tree_push.proofs.BlockUploadLemmas.{IsPassed, IsTaking}
use Rattle.tree_push.proofs.block_upload.put_blocks.Given as goal

abbrev pub invariant-loop-place : goal.invariant-loop-place
invariant-loop-place g l = record {
  told : g.F.Folder.told l.folder ≡ g.F.Folder.told l.fn.folder;
  spare : g.F.Folder.spare l.folder ≡ g.F.Folder.spare l.fn.folder;
  traced : Glances (g.F.Folder.trace l.fn.folder) (g.F.Folder.trace l.folder);
  faults : g.F.Folder.faults l.folder ≡ g.F.Folder.faults l.fn.folder;
  peer : g.R.Remote.peer l.remote ≡ g.R.Remote.peer l.fn.remote;
  alive : l.chunker.failed ≡ false;
  within : l.place ≤ l.size;
  taking : IsTaking l.library l.blocks l.left l.fn.lacking l.lacking (g.R.Remote.sends l.fn.remote) (g.R.Remote.sends l.remote);
  once : TakesOnce l.fn.lacking l.lacking (g.R.Remote.sends l.fn.remote) (g.R.Remote.sends l.remote);
  behind : (c : Contents) (bytes : List ℕ) → g.F.Folder.told l.fn.folder ≡ Some c → at c l.path ≡ Some (File bytes) → IsPassed l.fn.cuts bytes l.blocks l.place l.chunker l.left;
}

abbrev pub decreases-loop-place : goal.decreases-loop-place
decreases-loop-place g l = l.size - l.place

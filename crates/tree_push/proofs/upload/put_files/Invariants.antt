-- The blocks of the files so far are put.
use Rattle.std.proofs.Common.{◌≡◌, Some, IsSome}
use Rattle.std.specs.FinMap as fin
use Rattle.std.specs.List.{AllByRecursion}
use Rattle.folder_side.specs.Calls.{Glances}
use Rattle.folder_side.specs.Folder.{Contents}
use Rattle.tree_push.specs.BlockUpload.{StandsThere}
use Rattle.tree_push.specs.SentOnce.{TakesOnce}
use Rattle.tree_push.specs.Upload.{blocks_in}
use Rattle.tree_push.proofs.BlockUploadLemmas.{IsTaking}
use Rattle.tree_push.proofs.UploadLemmas.{HoldsOrLeft}
use Rattle.tree_push.proofs.upload.put_files.Given as goal

abbrev pub invariant-loop-path : goal.invariant-loop-path
invariant-loop-path g l = record {
  told : g.F.Folder.told l.folder ≡ g.F.Folder.told l.fn.folder;
  spare : g.F.Folder.spare l.folder ≡ g.F.Folder.spare l.fn.folder;
  traced : Glances (g.F.Folder.trace l.fn.folder) (g.F.Folder.trace l.folder);
  faults : g.F.Folder.faults l.folder ≡ g.F.Folder.faults l.fn.folder;
  peer : g.R.Remote.peer l.remote ≡ g.R.Remote.peer l.fn.remote;
  taking : IsTaking l.library (blocks_in (fin.entries l.paths)) (blocks_in l.path-iterator) l.fn.lacking l.lacking (g.R.Remote.sends l.fn.remote) (g.R.Remote.sends l.remote);
  once : TakesOnce l.fn.lacking l.lacking (g.R.Remote.sends l.fn.remote) (g.R.Remote.sends l.remote);
  holds : (c : Contents) → g.F.Folder.told l.fn.folder ≡ Some c
      → HoldsOrLeft (λ path s. IsSome (fin.get l.owns path) → StandsThere l.fn.cuts c path s) l.paths l.path-iterator;
  are : AllByRecursion (λ e. fin.get l.paths e.0 ≡ Some e.1) l.path-iterator;
}

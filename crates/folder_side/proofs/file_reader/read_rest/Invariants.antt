use Rattle.std.proofs.Common.{◌+◌, ◌-◌, ◌≡◌, ◌≤◌, ℕ, List, Some, false, length}
use Rattle.folder_side.specs.declared.holding.Holding.TheVariants.{File}
use Rattle.folder_side.specs.Folder.{Contents, at}
use Rattle.folder_side.specs.FileRead.{IsBehind}
use Rattle.folder_side.proofs.CallLemmas.{ReadsTo}
use Rattle.folder_side.proofs.FileReadLemmas.{reading_at}
use Rattle.folder_side.proofs.file_reader.read_rest.Given as goal
use Rattle.folder_side.specs.declared.file_reader.TheConstants.{MAX_FILE}

abbrev pub invariant-loop-place : goal.invariant-loop-place
invariant-loop-place g l = record {
  told : g.F.Folder.told l.folder ≡ g.F.Folder.told l.fn.folder;
  spare : g.F.Folder.spare l.folder ≡ g.F.Folder.spare l.fn.folder;
  faults : g.F.Folder.faults l.folder ≡ g.F.Folder.faults l.fn.folder;
  alive : l.chunker.failed ≡ false;
  bound : l.place ≤ 274877972480;
  traced : (before : List ℕ) → IsBehind l.fn.reading.chunker.cuts before l.fn.reading → l.fn.reading.place ≡ length before
      → ReadsTo l.fn.reading.chunker.cuts l.file l.fn.reading.place before (g.F.Folder.trace l.fn.folder) (g.F.Folder.trace l.folder) l.chunker l.names l.place;
  behind : (c : Contents) (bytes : List ℕ) → g.F.Folder.told l.fn.folder ≡ Some c → at c l.file ≡ Some (File bytes) → IsBehind l.fn.reading.chunker.cuts bytes l.fn.reading → IsBehind l.fn.reading.chunker.cuts bytes (reading_at l.chunker l.names l.place);
}

abbrev pub decreases-loop-place : goal.decreases-loop-place
decreases-loop-place g l = MAX_FILE + 1 - l.place

use Rattle.std.proofs.Common.{◌≡◌, ℕ, List, Some, length, take}
use Rattle.folder_side.specs.declared.holding.Holding.TheVariants.{File}
use Rattle.folder_side.specs.Folder.{Contents, at}
use Rattle.folder_texts.proofs.whole_file.read_all.Given as goal

-- what was read so far begins the file
abbrev pub invariant-loop : goal.invariant-loop
invariant-loop g l = record {
  told : g.F.Folder.told l.folder ≡ g.F.Folder.told l.fn.folder;
  spare : g.F.Folder.spare l.folder ≡ g.F.Folder.spare l.fn.folder;
  faults : g.F.Folder.faults l.folder ≡ g.F.Folder.faults l.fn.folder;
  behind : (c : Contents) (bytes : List ℕ) → g.F.Folder.told l.fn.folder ≡ Some c → at c l.file ≡ Some (File bytes) →
      l.bytes.items ≡ take (length l.bytes.items) bytes;
}

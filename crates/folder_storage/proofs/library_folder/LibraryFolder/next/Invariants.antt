use Rattle.std.proofs.Common.{◌≡◌}
use Rattle.folder_storage.specs.LibraryFolder.{doubts_of}
use Rattle.folder_storage.proofs.library_folder.LibraryFolder.next.Given as goal

-- what is in doubt is as it was
abbrev pub invariant-loop-first : goal.invariant-loop-first
invariant-loop-first g l = doubts_of l.self ≡ doubts_of l.fn.self

use Rattle.std.proofs.Common.{◌≡◌}
use Rattle.folder_storage.specs.LibraryFolder.{doubts_of}
use Rattle.folder_storage.proofs.library_folder.LibraryFolder.sync_files_at_once.Given as goal

-- what is in doubt is as it was
abbrev pub invariant-loop-some : goal.invariant-loop-some
invariant-loop-some g l = doubts_of l.self ≡ doubts_of l.fn.self

use Rattle.std.proofs.Common.{◌≡◌}
use Rattle.folder_storage.specs.LibraryFolder.{doubts_of}
use Rattle.folder_storage.proofs.library_folder.LibraryFolder.enter_folders.Given as goal

-- what is in doubt is as it was, but for the folder's own name
abbrev pub invariant-loop-key : goal.invariant-loop-key
invariant-loop-key g l = doubts_of l.self ≡ record (doubts_of l.fn.self) { is_adrift = l.self.is_adrift }

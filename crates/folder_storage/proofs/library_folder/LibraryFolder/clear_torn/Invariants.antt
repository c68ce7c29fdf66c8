use Rattle.std.proofs.Common.{◌≡◌}
use Rattle.folder_storage.specs.LibraryFolder.{doubts_of}
use Rattle.folder_storage.proofs.library_folder.LibraryFolder.clear_torn.Given as goal

-- what is to be added is as it was, and so is all else but whether the folder's own name is in doubt
abbrev pub invariant-loop-key : goal.invariant-loop-key
invariant-loop-key g l =
    (l.self.earlier.near.items ≡ l.fn.self.earlier.near.items) × (l.self.earlier.whole.items ≡ l.fn.self.earlier.whole.items) × (l.self.has_earlier ≡ l.fn.self.has_earlier)
    × (doubts_of l.self ≡ record (doubts_of l.fn.self) { is_adrift = l.self.is_adrift })

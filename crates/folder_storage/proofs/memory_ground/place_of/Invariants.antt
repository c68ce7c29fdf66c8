use Rattle.std.proofs.Common.{◌≡◌, ℕ, ◌<◌, false, slice_index_or}
use Rattle.folder_storage.specs.MemoryGround.{is_at}
use Rattle.folder_storage.specs.declared.memory_ground.KeptLibrary.{KeptLibrary}
use Rattle.folder_storage.proofs.memory_ground.place_of.Given as goal

-- no entry so far is of the library
abbrev pub invariant-loop-place : goal.invariant-loop-place
invariant-loop-place l = (k : ℕ) (d : KeptLibrary) → k < l.place → is_at (slice_index_or l.libraries k d) l.folder l.lib ≡ false

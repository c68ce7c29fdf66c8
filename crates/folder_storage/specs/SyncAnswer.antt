-- What the answer of a sync tells. Our own.
use Rattle.std.specs.Prelude.{Bool, false, true, Result, Ok, Err}
use Rattle.folder_storage.specs.declared.file_system.SyncEnding.{SyncEnding}
use Rattle.folder_storage.specs.declared.file_system.SyncEnding.TheVariants.{Failed, Missing, Synced}

-- it is there or not, where the sync was done
abbrev pub ending_after : {E : Type 0} → Result Bool E → SyncEnding
ending_after (Ok true) = Synced
ending_after (Ok false) = Missing
ending_after (Err failure) = Failed

-- what stood there is durable, or nothing has to be
abbrev pub is_done_by : SyncEnding → Bool
is_done_by Synced = true
is_done_by Missing = true
is_done_by Failed = false

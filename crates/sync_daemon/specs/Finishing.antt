-- What the whole of a sync comes to, from where its rounds left it. Our own. Read FinishesSo, then SyncsIndex.
use Rattle.std.specs.Prelude.{ℕ, ◌≡◌, List, ◌++◌, Option, Some, Result, [], false}
use Rattle.block_chunker.specs.declared.cuts.Cuts.{Cuts}
use Rattle.folder_side.specs.Folder.{Contents}
use Rattle.local_index.specs.declared.index.Index.{Index}
use Rattle.remote_calls.specs.Sends.{Sent}
use Rattle.sync_rules.specs.Causes.{EndsSo}
use Rattle.sync_rules.specs.Offer.{IsUsual}
use Rattle.sync_rules.specs.OneSync.{LeavesIndex, SyncsSo}
use Rattle.sync_rules.specs.declared.fault.SyncFault.{SyncFault}
use Rattle.sync_rules.specs.declared.synced.Synced.{Synced}
use Rattle.sync_daemon.specs.RoundOrder.{AsksSo, IsSoInRound}
use Rattle.sync_daemon.specs.Syncing.{KeepsSkipped}
use Rattle.sync_daemon.specs.SentKeys.{SendsOffered}
use Rattle.sync_daemon.specs.Unpushed.{KeepsUnpushed}
use Rattle.sync_daemon.specs.Going.{Sync}
use Rattle.sync_daemon.specs.Rounds.{sync_of}
use Rattle.sync_daemon.specs.declared.round.Settled.{Settled}

-- all that is promised of one sync, of its sends, the folder that it leaves and the index
pub record Finishes (s : Sync) (now : Option Contents) (j : Index) (more : List Sent) (result : Result Synced SyncFault) : Type 0 where
  pub orders : AsksSo s.lib s.secret s.user s.shows s.index.base more
  pub ends : EndsSo (IsSoInRound s.cuts s.told s.index more) more result
  pub leaves : LeavesIndex s.index j more result
  pub skipped : KeepsSkipped s.told now
  pub keeps : KeepsUnpushed (record { lib = s.lib; secret = s.secret }) s.user s.shows s.cuts s.told now s.index more
  pub sends : (c : Contents) → s.told ≡ Some c → SendsOffered (record { lib = s.lib; secret = s.secret }) s.user s.shows s.cuts c s.index [] more
  pub over : (c : Contents) → s.told ≡ Some c → SyncsSo s.cuts c now s.index j s.user more s.shows result

abbrev pub FinishesSo : Sync → Option Contents → Index → (start new : List Sent) → Result Synced SyncFault → Type 0
FinishesSo s now j start new result = (more : List Sent) × (new ≡ start ++ more) × Finishes s now j more result

-- one sync of an index of which each entry counts, by this project's chunks
abbrev pub SyncsIndex : (secret user : List ℕ) → (shows : ℕ → Type 0) → (told now : Option Contents) → (i j : Index) → (old new : List Sent) → Result Synced SyncFault → Type 0
SyncsIndex secret user shows told now i j old new result =
    (cuts : Cuts) × IsUsual cuts × FinishesSo (sync_of (record { lib = i.lib; secret = secret }) user shows cuts told i) now j old new result

-- nothing was done to the folder, since nothing was pushed and the head is the base, or since the head is the commit that was pushed
abbrev pub spared_of : Settled → Synced
spared_of settled = record {
  head = settled.head;
  pushed = settled.pushed;
  conflict = false;
  written = 0;
  removed = 0;
  skipped = settled.scan.skipped;
  held = [];
}

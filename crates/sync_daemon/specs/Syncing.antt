-- What one sync of a folder with a library promises. Our own. Read IsSynced of `sync_rules` before; then SyncedAs.
use Rattle.std.specs.Prelude.{ℕ, ◌≡◌, List, [], ◌++◌, Option, None, Some, Result}
use Rattle.std.specs.FinMap as fin
use Rattle.tree_model.specs.Path.{PathV, path_cmp}
use Rattle.block_chunker.specs.declared.cuts.Cuts.{Cuts}
use Rattle.folder_side.specs.Folder.{Contents, at}
use Rattle.folder_side.specs.declared.holding.Holding.TheVariants.{Other}
use Rattle.local_index.specs.declared.index.Index.{Index}
use Rattle.local_index.specs.declared.index.Known.{Known}
use Rattle.remote_calls.specs.Sends.{Sent}
use Rattle.sync_rules.specs.Causes.{EndsSo}
use Rattle.sync_rules.specs.Offer.{IsUsual}
use Rattle.sync_rules.specs.OneSync.{LeavesIndex, SyncsSo}
use Rattle.sync_rules.specs.declared.fault.SyncFault.{SyncFault}
use Rattle.sync_rules.specs.declared.synced.Synced.{Synced}
use Rattle.sync_daemon.specs.RoundOrder.{AsksSo, IsSoInRound}
use Rattle.sync_daemon.specs.SentKeys.{SendsOffered}
use Rattle.sync_daemon.specs.Unpushed.{KeepsUnpushed}

-- an index without a base stands for nothing: what entries it has don't count, so nothing is taken for removed that nobody removed
abbrev pub counted_entries : (base : Option (List ℕ)) → fin.FinMap path_cmp Known → fin.FinMap path_cmp Known
counted_entries None entries = fin.empty
counted_entries (Some id) entries = entries

abbrev pub counted : Index → Index
counted i = record { lib = i.lib; base = i.base; entries = counted_entries i.base i.entries }

-- what is neither a file nor a directory, which a scan tells as skipped, is as it was
abbrev pub KeepsSkipped : (told now : Option Contents) → Type 0
KeepsSkipped told now = (c d : Contents) → told ≡ Some c → now ≡ Some d → (path : PathV) → at c path ≡ Some Other → at d path ≡ Some Other

-- by this project's chunks: which orders it sent, why it ended as it did, the index that it leaves, that whatever came what is skipped
-- stays and nothing unpushed is lost, and, where the folder tells what it holds, what it holds then
pub record SyncedAs (secret user : List ℕ) (shows : ℕ → Type 0) (told now : Option Contents) (i j : Index) (old new : List Sent) (result : Result Synced SyncFault) : Type 0 where
  pub cuts : Cuts
  pub usual : IsUsual cuts
  pub more : List Sent
  pub grown : new ≡ old ++ more
  pub orders : AsksSo i.lib secret user shows i.base more
  pub ends : EndsSo (IsSoInRound cuts told (counted i) more) more result
  pub leaves : LeavesIndex i j more result
  pub skipped : KeepsSkipped told now
  pub keeps : KeepsUnpushed (record { lib = i.lib; secret = secret }) user shows cuts told now (counted i) more
  pub sends : (c : Contents) → told ≡ Some c → SendsOffered (record { lib = i.lib; secret = secret }) user shows cuts c (counted i) [] more
  pub over : (c : Contents) → told ≡ Some c → SyncsSo cuts c now (counted i) j user more shows result

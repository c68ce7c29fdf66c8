-- Where a sync stands after the orders that it sent so far, before it touches the folder. Our own. Read Sync first, then Going and
-- Refuses.
use Rattle.std.specs.Prelude.{ℕ, ◌≡◌, ◌⊎◌, true, false, is_some, All, List, [], ◌++◌, Option, None, Some, Err}
use Rattle.ids.specs.Key.{Objects}
use Rattle.ids.specs.declared.key.Key.{Key}
use Rattle.tree_model.specs.Tree.{Tree}
use Rattle.block_chunker.specs.declared.cuts.Cuts.{Cuts}
use Rattle.folder_side.specs.Folder.{Contents}
use Rattle.local_index.specs.declared.index.Index.{Index}
use Rattle.remote_calls.specs.Sends.{Sent}
use Rattle.sync_rules.specs.Causes.{CausedOver, EndsSo, FindsSome, HasPath, WentWell, stale_count}
use Rattle.sync_rules.specs.Named.{IsHad, is_block, keys_asked}
use Rattle.sync_rules.specs.OneSync.{ComesInOrder, GoesInOrder, GoesUnpushed, HasNotBegun, NeedsNoTree}
use Rattle.sync_rules.specs.Orders.{Stage}
use Rattle.sync_rules.specs.Orders.Stage.{Begins}
use Rattle.sync_rules.specs.Premises.{Over}
use Rattle.sync_rules.specs.Uploads.{UploadsSo}
use Rattle.sync_rules.specs.declared.fault.SyncFault.{SyncFault}
use Rattle.sync_daemon.specs.RoundOrder.{AsksSo, IsSoInRound, stage_from}
use Rattle.sync_daemon.specs.SentKeys.{SendsOffered}

-- ---- one sync

-- what a sync has from the beginning: its library and secret, the user, the moments that its clock can show, the chunks, what the
-- folder tells that it holds, and the index
pub record Sync : Type 1 where
  pub lib : List ℕ
  pub secret : List ℕ
  pub user : List ℕ
  pub shows : ℕ → Type 0
  pub cuts : Cuts
  pub told : Option Contents
  pub index : Index

-- ---- so far all went well

-- over a folder that tells what it holds
pub record GoingOver (s : Sync) (c : Contents) (more : List Sent) : Type 0 where
  pub uploads : UploadsSo s.cuts c s.index s.user more s.shows
  pub order : GoesInOrder s.cuts c s.index more
  pub found : s.index.base ≡ None → HasPath c → FindsSome more → ⊥
  pub sends : SendsOffered (record { lib = s.lib; secret = s.secret }) s.user s.shows s.cuts c s.index [] more
  pub had : List (Key × List ℕ)
  pub is_had : IsHad more had

-- each order went well; so many updates came too late
pub record Going (s : Sync) (more : List Sent) (stage : Stage) (late : ℕ) : Type 0 where
  pub orders : AsksSo s.lib s.secret s.user s.shows s.index.base more
  pub went : All WentWell more
  pub reached : stage_from Begins more ≡ stage
  pub lates : stale_count more ≡ late
  -- no block was asked for
  pub unbegun : All (λ (key : Key). is_block key.kind ≡ false) (keys_asked more)
  pub over : (c : Contents) → s.told ≡ Some c → GoingOver s c more

-- where the index has a base no object was asked for
abbrev pub Spares : Sync → List Sent → Type 0
Spares s more = is_some s.index.base ≡ true → keys_asked more ≡ []

-- ---- it is refused, and the folder is as it was

-- no step of a plan was begun, and where a tree tells the cause it is that
abbrev pub CausedUntouched : Sync → Contents → List Sent → SyncFault → Type 0
CausedUntouched s c more f = (NeedsNoTree f × HasNotBegun more f)
    ⊎ (GoesUnpushed s.cuts c s.index more × (had : List (Key × List ℕ)) × IsHad more had × ((objects : Objects) (base : Tree) → Over objects s.cuts c s.index base had
    → CausedOver objects c more f × HasNotBegun more f))

pub record RefusesOver (s : Sync) (c : Contents) (more : List Sent) (f : SyncFault) : Type 0 where
  pub uploads : UploadsSo s.cuts c s.index s.user more s.shows
  pub order : GoesInOrder s.cuts c s.index more
  pub comes : ComesInOrder c s.index more f
  pub cause : CausedUntouched s c more f
  pub sends : SendsOffered (record { lib = s.lib; secret = s.secret }) s.user s.shows s.cuts c s.index [] more

pub record Refuses (s : Sync) (more : List Sent) (f : SyncFault) : Type 0 where
  pub orders : AsksSo s.lib s.secret s.user s.shows s.index.base more
  pub ends : EndsSo (IsSoInRound s.cuts s.told s.index more) more (Err f)
  pub over : (c : Contents) → s.told ≡ Some c → RefusesOver s c more f

-- the same of the list of sends, which began with these
abbrev pub Stops : Sync → (start now : List Sent) → SyncFault → Type 0
Stops s start now f = (more : List Sent) × (now ≡ start ++ more) × Refuses s more f

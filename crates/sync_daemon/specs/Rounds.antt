-- What stands between the steps of a round, and what it comes to. Our own. Read IsSettled and RoundSo first, then IsChecked, IsJoined.
use Rattle.std.specs.Prelude.{ℕ, ◌≡◌, ◌≤◌, ◌+◌, ◌⊎◌, Bool, true, false, List, [], ◌∷◌, ◌++◌, Option, None, Some, IsSome, Result, Ok, Err, ⊤}
use Rattle.ids.specs.Key.{Objects}
use Rattle.ids.specs.declared.key.Key.{Key}
use Rattle.tree_model.specs.Path.{PathV}
use Rattle.tree_model.specs.Tree.{Tree}
use Rattle.block_chunker.specs.declared.cuts.Cuts.{Cuts}
use Rattle.folder_side.specs.Folder.{Contents, IsFolder}
use Rattle.folder_side.specs.ScanReport.{IsPastLimit, IsScan, IsWithinLimits}
use Rattle.folder_side.specs.declared.error.ScanFault.TheVariants as scan
use Rattle.folder_side.specs.declared.error.ScanFault.{ScanFault}
use Rattle.folder_side.specs.declared.scan_report.Scan.{Scan}
use Rattle.local_index.specs.ScanChanges.{change_at}
use Rattle.local_index.specs.declared.index.Index.{Index}
use Rattle.http_front.specs.declared.order.What.TheVariants as what
use Rattle.http_front.specs.declared.order.What.{What}
use Rattle.library_state.specs.declared.refusal.Refusal.TheVariants as refusal
use Rattle.remote_calls.specs.Sends.{Sent}
use Rattle.sync_rules.specs.Causes.{DeniesUpload, HasPath, IsRefusedBy}
use Rattle.sync_rules.specs.Named.{EndsAtUpdate, IsHad, asked_head, is_get, keys_lacked, keys_named, keys_put, last_head, last_round}
use Rattle.sync_rules.specs.Offer.{Agrees, IsOfferOf}
use Rattle.sync_rules.specs.Orders.{Stage, may_send}
use Rattle.sync_rules.specs.Orders.Stage.{Begins, Reads, Uploads}
use Rattle.sync_rules.specs.Premises.{Over}
use Rattle.sync_rules.specs.Uploads.{IsEmptyHead}
use Rattle.sync_rules.specs.declared.fault.SyncFault.{SyncFault}
use Rattle.sync_rules.specs.declared.fault.SyncFault.TheVariants as fault
use Rattle.tree_fetch.specs.declared.asker.Asker.{Asker}
use Rattle.tree_push.specs.ChangedOwns.{AreChangedOwns, Owns}
use Rattle.tree_push.specs.Pushing.{HoldsOffer, PutsChanged}
use Rattle.tree_push.specs.declared.standing.Pushed.{Pushed}
use Rattle.tree_push.specs.declared.standing.Pushed.TheVariants as pushed
use Rattle.sync_daemon.specs.RoundOrder.{IsBehindChecks, stage_from}
use Rattle.sync_daemon.specs.Going.{Going, Spares, Stops, Sync}
use Rattle.sync_daemon.specs.declared.round.Round.{Round}
use Rattle.sync_daemon.specs.declared.round.Round.TheVariants as round
use Rattle.sync_daemon.specs.declared.round.Settled.{Settled}

-- ---- one sync

abbrev pub sync_of : Asker → (user : List ℕ) → (ℕ → Type 0) → Cuts → Option Contents → Index → Sync
sync_of asker user shows cuts told index = record { lib = asker.lib; secret = asker.secret; user = user; shows = shows; cuts = cuts; told = told; index = index }

-- ---- a scan

-- why a scan ends a sync
abbrev pub scan_fault : ScanFault → SyncFault
scan_fault scan.Folder = fault.Folder
scan_fault scan.NoMemory = fault.NoMemory
scan_fault why = fault.Scan why

-- it failed, memory was wanting, or the folder is past a limit
abbrev pub IsScanFault : Option Contents → SyncFault → Type 0
IsScanFault told fault.Folder = ⊤
IsScanFault told fault.NoMemory = ⊤
IsScanFault told (fault.Scan scan.Folder) = ⊥
IsScanFault told (fault.Scan scan.NoMemory) = ⊥
IsScanFault told (fault.Scan why) = (c : Contents) → told ≡ Some c → IsPastLimit c why
IsScanFault told f = ⊥

-- what was seen of a folder that tells what it holds
pub record IsSeen (cuts : Cuts) (c : Contents) (report : Scan) : Type 0 where
  pub scanned : IsScan cuts c report
  pub formed : IsFolder c
  pub within : IsWithinLimits c

abbrev pub ScansSo : Cuts → Option Contents → Result Scan SyncFault → Type 0
ScansSo cuts told (Ok report) = (c : Contents) → told ≡ Some c → IsSeen cuts c report
ScansSo cuts told (Err f) = IsScanFault told f

-- something was changed
abbrev pub TellsChange : Scan → Index → Bool → Type 0
TellsChange report index true = ((path : PathV) → change_at report.paths index.entries path ≡ None) → ⊥
TellsChange report index false = (path : PathV) → change_at report.paths index.entries path ≡ None

-- a folder that differs isn't pushed only where an upload is denied; and it may be as a checkout left it only where the index has a base
abbrev pub MayDiffer : (differs may : Bool) → (base : Option (List ℕ)) → Type 0
MayDiffer true may base = (may ≡ false) × IsSome base
MayDiffer false may base = ⊤

-- ---- between the steps of a round

-- in this round no object was named yet
pub record IsFresh (more : List Sent) : Type 0 where
  pub named : keys_named (last_round more []) ≡ []
  pub lacked : keys_lacked (last_round more []) ≡ []
  pub put : keys_put (last_round more []) ≡ []

-- whether one may upload
abbrev pub MayUpload : Bool → Stage → List Sent → Type 0
MayUpload true stage more = stage ≡ Uploads
MayUpload false stage more = (stage ≡ Reads) × DeniesUpload more

-- behind the checks
pub record IsChecked (s : Sync) (more : List Sent) (late : ℕ) (may : Bool) : Type 0 where
  pub stage : Stage
  pub going : Going s more stage late
  pub few : late ≤ 2
  pub may_upload : MayUpload may stage more
  pub fresh : IsFresh more
  pub unasked : asked_head more None ≡ None
  pub spares : Spares s more
  pub behind : IsBehindChecks more

-- the head that was asked for where the index has no base, so that it is the base; where it has one, none was in this round
abbrev pub IsAskedFor : (base asked : Option (List ℕ)) → List Sent → Type 0
IsAskedFor base None more = IsSome base × (asked_head more None ≡ None)
IsAskedFor base (Some head) more = (base ≡ None) × (asked_head more None ≡ Some head) × (last_head more None ≡ Some (head, None))

-- behind the head, where one was asked for, and behind its commit, where the folder has something
pub record IsJoined (s : Sync) (more : List Sent) (late : ℕ) (may : Bool) (asked : Option (List ℕ)) : Type 0 where
  pub stage : Stage
  pub going : Going s more stage late
  pub few : late ≤ 2
  pub may_upload : MayUpload may stage more
  pub fresh : IsFresh more
  pub asked_for : IsAskedFor s.index.base asked more
  pub spares : Spares s more
  pub joins : (c : Contents) → s.told ≡ Some c → s.index.base ≡ None → HasPath c → IsEmptyHead more
  pub behind : (c : Contents) → s.told ≡ Some c → s.index.base ≡ None → HasPath c → (before : List Sent) (sent : Sent) → more ≡ before ++ sent ∷ [] → sent.0.what ≡ what.Head None → ⊥

-- ---- what it comes to

-- what was pushed: the update is the last order, and of which texts the commit is, over every folder; the same of what was sent in the
-- round alone, in which all was put that is new or changed
pub record IsPushed (s : Sync) (more : List Sent) (settled : Settled) (id : List ℕ) : Type 0 where
  pub ends : EndsAtUpdate more id
  pub parent : List ℕ
  pub offer : HoldsOffer (record { lib = s.lib; secret = s.secret }) s.user settled.moment parent s.index settled.scan more id
  pub round : HoldsOffer (record { lib = s.lib; secret = s.secret }) s.user settled.moment parent s.index settled.scan (last_round more []) id
  pub put : PutsChanged s.index settled.scan (last_round more [])

-- nothing was pushed though the folder differs from its index, since an upload is denied
pub record Differs (s : Sync) (more : List Sent) (settled : Settled) : Type 0 where
  pub unpushed : settled.pushed ≡ None
  pub based : IsSome s.index.base
  pub denies : DeniesUpload more
  pub reads : stage_from Begins more ≡ Reads
  pub other : (c : Contents) → s.told ≡ Some c → Agrees s.cuts c s.index → ⊥

-- the folder agrees with the index and the head was asked for, or what changed was pushed, or may not be; what is sent next may ask for
-- objects
pub record IsSettled (s : Sync) (more : List Sent) (settled : Settled) : Type 0 where
  pub stage : Stage
  pub late : ℕ
  pub going : Going s more stage late
  pub few : late ≤ 2
  pub may_get : (asked : What) → is_get asked ≡ true → may_send stage asked ≡ true
  pub named : last_head more None ≡ Some (settled.head, settled.pushed)
  pub spares : Spares s more
  pub shown : s.shows settled.moment
  pub owns : AreChangedOwns s.index.entries settled.scan.paths settled.owns
  pub pushed_as : (id : List ℕ) → settled.pushed ≡ Some id → IsPushed s more settled id
  pub seen : (c : Contents) → s.told ≡ Some c → IsSeen s.cuts c settled.scan
  pub agrees : (c : Contents) → s.told ≡ Some c → settled.pushed ≡ None → settled.differs ≡ false → Agrees s.cuts c s.index
  pub differs : settled.differs ≡ true → Differs s more settled
  pub offered : (c : Contents) → s.told ≡ Some c → (had : List (Key × List ℕ)) × IsHad more had × ((objects : Objects) (base : Tree) → Over objects s.cuts c s.index base had
      → IsOfferOf objects s.cuts c s.index settled.moment s.user (asked_head more None) settled.pushed)
  pub behind : (c : Contents) → s.told ≡ Some c → s.index.base ≡ None → HasPath c → (before : List Sent) (sent : Sent) → more ≡ before ++ sent ∷ [] → sent.0.what ≡ what.Head None → ⊥

-- the last order was an update that came too late
abbrev pub EndsLate : List Sent → ℕ → Type 0
EndsLate more count = (before : List Sent) × (sent : Sent) × (last : ℕ) × (more ≡ before ++ sent ∷ []) × IsRefusedBy sent.1 (refusal.Stale last count)

abbrev pub RoundSo : Sync → (start now : List Sent) → (late : ℕ) → Result Round SyncFault → Type 0
RoundSo s start now late (Ok (round.Settled settled)) = (more : List Sent) × (now ≡ start ++ more) × IsSettled s more settled
RoundSo s start now late (Ok (round.Late count)) = (more : List Sent) × (now ≡ start ++ more) × Going s more Begins (late + 1) × Spares s more × EndsLate more count
RoundSo s start now late (Err f) = Stops s start now f

-- so many rounds ended with an update that came too late, the last one by this number
abbrev pub IsInRounds : Sync → (start now : List Sent) → (late count : ℕ) → Type 0
IsInRounds s start now late count = (more : List Sent) × (now ≡ start ++ more) × Going s more Begins late × Spares s more × ((late ≡ 0) ⊎ EndsLate more count)

-- up to three rounds
abbrev pub RoundsSo : Sync → (start now : List Sent) → Result Settled SyncFault → Type 0
RoundsSo s start now (Ok settled) = (more : List Sent) × (now ≡ start ++ more) × IsSettled s more settled
RoundsSo s start now (Err f) = Stops s start now f

-- what a push comes to
abbrev pub pushed_round : Scan → Owns → (moment : ℕ) → Pushed → Round
pushed_round report owns moment (pushed.Installed commit head) = round.Settled (record { scan = report; owns = owns; head = head; pushed = Some commit; moment = moment; differs = false })
pushed_round report owns moment (pushed.Late count) = round.Late count

-- One sync of a folder that tells what it holds: in which order its steps come, and all that it promises. Our own. Read SyncsSo, at
-- the end, then GoesInOrder and ComesInOrder. What is so over every folder: LeavesIndex, CausesOf in Causes, and Orders.
use Rattle.std.specs.Prelude.{ℕ, ◌≡◌, ◌⊎◌, true, false, All, List, [], ◌∷◌, ◌++◌, Option, None, Some, Result, Ok, Err, ⊤}
use Rattle.std.specs.FinMap as fin
use Rattle.ids.specs.Key.{Objects}
use Rattle.ids.specs.declared.key.Key.{Key}
use Rattle.tree_model.specs.Path.{PathV}
use Rattle.tree_model.specs.Tree.{Tree}
use Rattle.block_chunker.specs.declared.cuts.Cuts.{Cuts}
use Rattle.commit_objects.specs.declared.commit.Commit.{Commit}
use Rattle.object_graph.specs.Objects.{commit_at}
use Rattle.object_graph.specs.Unchanged.{Keeps}
use Rattle.tree_walk.specs.declared.fault.WalkFault.TheVariants as walk
use Rattle.folder_side.specs.Folder.{Contents}
use Rattle.folder_side.specs.ScanReport.{IsWithinLimits}
use Rattle.local_index.specs.declared.index.Index.{Index}
use Rattle.remote_calls.specs.Sends.{Sent}
use Rattle.sync_rules.specs.Causes.{CausedOver, DeniesUpload, FindsSome, HasPath, WentWell}
use Rattle.sync_rules.specs.InterruptedCheckout.{IsInterrupted}
use Rattle.sync_rules.specs.Named.{AreTextsOf, EndsAtUpdate, HasGot, IsHad, gets_tree, is_block, is_check, keys_asked, last_head}
use Rattle.sync_rules.specs.Offer.{Agrees}
use Rattle.sync_rules.specs.Premises.{KnowsRoot, KnowsSizes, Over}
use Rattle.sync_rules.specs.Synced.{IsConflict, IsStopped, IsSynced, is_early}
use Rattle.sync_rules.specs.Uploads.{IsEmptyHead, UploadsSo}
use Rattle.sync_rules.specs.declared.fault.SyncFault.{SyncFault}
use Rattle.sync_rules.specs.declared.fault.SyncFault.TheVariants as fault
use Rattle.sync_rules.specs.declared.synced.Synced.{Synced}

-- ---- in which order

-- a tree is got where the folder agrees with its index, where what it differed in was pushed, or where an upload is denied, to look
-- whether it is as a checkout leaves it; `before` was sent before these
abbrev pub PushesFirst : Cuts → Contents → Index → (before : List Sent) → List Sent → Type 0
PushesFirst cuts c i before [] = ⊤
PushesFirst cuts c i before (sent ∷ more) =
    (gets_tree sent.0.what ≡ true → (head : List ℕ) → last_head before None ≡ Some (head, None) → Agrees cuts c i ⊎ DeniesUpload before)
    × PushesFirst cuts c i (before ++ sent ∷ []) more

-- nothing is sent once the head was found to have something; `before` was sent before these
abbrev pub EndsWhereSome : (before : List Sent) → List Sent → Type 0
EndsWhereSome before [] = ⊤
EndsWhereSome before (sent ∷ more) = (FindsSome before → ⊥) × EndsWhereSome (before ++ sent ∷ []) more

-- nothing but checks is sent of a folder that is past a limit of a scan; where folder and library have something and were never
-- synced, nothing is sent once that is found; and a tree is got last
pub record GoesInOrder (cuts : Cuts) (c : Contents) (i : Index) (more : List Sent) : Type 0 where
  pub scanned : All (λ (sent : Sent). is_check sent.0.what ≡ true) more ⊎ IsWithinLimits c
  pub found : i.base ≡ None → HasPath c → EndsWhereSome [] more
  pub pushed : PushesFirst cuts c i [] more

-- a fault comes only where none that is looked for before it has its cause: past a limit of a scan, then `NotEmpty`, then that an
-- upload is denied. What an order is the cause of ends the sync at once (`EndsSo`)
abbrev pub ComesInOrder : Contents → Index → List Sent → SyncFault → Type 0
ComesInOrder c i more (fault.Scan why) = All (λ (sent : Sent). is_check sent.0.what ≡ true) more
ComesInOrder c i more (fault.Refused r) = All WentWell more → IsWithinLimits c × (i.base ≡ None → HasPath c → IsEmptyHead more)
ComesInOrder c i more fault.NotEmpty = ⊤
ComesInOrder c i more fault.NoMemory = ⊤
ComesInOrder c i more (fault.Remote f) = ⊤
ComesInOrder c i more (fault.Damaged want got) = ⊤
ComesInOrder c i more f = i.base ≡ None → HasPath c → FindsSome more → ⊥

-- ---- the index, over every folder

-- nothing was got, since the head is the base, and the index is as it was
pub record IsSpared (i j : Index) (more : List Sent) (s : Synced) : Type 0 where
  pub pushed : s.pushed ≡ None
  pub head : i.base ≡ Some s.head
  pub none : keys_asked more ≡ []
  pub conflict : s.conflict ≡ false
  pub same : (path : PathV) → fin.get j.entries path ≡ fin.get i.entries path

-- the index knows the entries of the head's tree, ids and sizes among them
pub record KnowsHead (objects : Objects) (j : Index) (s : Synced) : Type 0 where
  pub commit : Commit
  pub stored : commit_at objects s.head ≡ Ok commit
  pub conflict : IsConflict s.pushed s.head commit s.conflict
  pub knows : KnowsRoot objects commit.root j
  pub sizes : KnowsSizes objects commit.root j

-- nothing was got of the head, since it is the commit that was pushed: the index knows its tree, over any objects that have the texts that
-- the call had for what it sent or asked about
pub record KnowsPushed (j : Index) (more : List Sent) (s : Synced) : Type 0 where
  pub pushed : s.pushed ≡ Some s.head
  pub ends : EndsAtUpdate more s.head
  pub texts : Objects
  pub are : AreTextsOf more texts
  pub knows : (objects : Objects) → Keeps texts objects → KnowsHead objects j s

-- after a fault the index is as it was; else the head is its base, and it knows the head's tree, over any objects that have what was got,
-- or what was sent or asked about where the head is the pushed commit
abbrev pub LeavesIndex : Index → Index → List Sent → Result Synced SyncFault → Type 0
LeavesIndex i j more (Ok s) = (j.base ≡ Some s.head) × (j.lib ≡ i.lib)
    × (IsSpared i j more s ⊎ (((objects : Objects) → HasGot objects more → KnowsHead objects j s) ⊎ KnowsPushed j more s))
LeavesIndex i j more (Err f) = j ≡ i

-- ---- all of it

-- a fault whose cause no tree tells
abbrev pub NeedsNoTree : SyncFault → Type 0
NeedsNoTree (fault.Blocked path) = ⊥
NeedsNoTree f = ⊤

-- no step of a plan was begun: no block was asked for, and no size is wrong
abbrev pub HasNotBegun : List Sent → SyncFault → Type 0
HasNotBegun more (fault.BadTree (walk.WrongSize id)) = ⊥
HasNotBegun more f = All (λ (key : Key). is_block key.kind ≡ false) (keys_asked more)

-- where nothing was pushed, the folder agrees with its index; or an upload is denied, and it differs from that by a checkout that was
-- interrupted alone
abbrev pub GoesUnpushed : Cuts → Contents → Index → List Sent → Type 0
GoesUnpushed cuts c i more = (head : List ℕ) → last_head more None ≡ Some (head, None) → Agrees cuts c i ⊎ (DeniesUpload more × IsInterrupted cuts c i more head)

-- of a folder that tells what it holds: over any objects that have what the call named. Where no step was begun the folder is as it
-- was; else it stopped within a plan
abbrev pub SyncsSo : Cuts → Contents → Option Contents → Index → Index → (user : List ℕ) → List Sent → (ℕ → Type 0) → Result Synced SyncFault → Type 0
SyncsSo cuts c told i j user more shows (Ok s) = (d : Contents) × (told ≡ Some d) × UploadsSo cuts c i user more shows × GoesInOrder cuts c i more
    × GoesUnpushed cuts c i more × (had : List (Key × List ℕ)) × IsHad more had
    × ((objects : Objects) (base : Tree) → Over objects cuts c i base had → (t : Tree) × (moment : ℕ) × shows moment × IsSynced objects cuts c d i j t moment user more s)
SyncsSo cuts c told i j user more shows (Err f) = (d : Contents) × (told ≡ Some d) × UploadsSo cuts c i user more shows × GoesInOrder cuts c i more
    × ComesInOrder c i more f × (is_early f ≡ true → d ≡ c)
    × (((d ≡ c) × NeedsNoTree f × HasNotBegun more f) ⊎ (GoesUnpushed cuts c i more × (had : List (Key × List ℕ)) × IsHad more had
    × ((objects : Objects) (base : Tree) → Over objects cuts c i base had
    → CausedOver objects c more f × (((d ≡ c) × HasNotBegun more f) ⊎ IsStopped objects cuts c d i user more shows))))

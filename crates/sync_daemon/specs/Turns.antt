-- What turns of several syncs do, all of them or some. Our own. Read JobSo, then TurnsSo and StopsTurns.
use Rattle.std.specs.Prelude.{ℕ, zero, suc, ◌≡◌, ◌<◌, List, [], ◌∷◌, ◌++◌, length, Option, Result, ⊤}
use Rattle.folder_side.specs.Folder.{Contents}
use Rattle.local_index.specs.declared.index.Index.{Index}
use Rattle.remote_calls.specs.Sends.{Sent}
use Rattle.sync_rules.specs.Causes.{FolderRose}
use Rattle.sync_rules.specs.declared.fault.SyncFault.{SyncFault}
use Rattle.sync_rules.specs.declared.synced.Synced.{Synced}
use Rattle.sync_daemon.specs.Syncing.{SyncedAs}
use Rattle.sync_daemon.specs.declared.turns.Job.{Job}

-- what a job has that a sync changes, or that it goes by, and to whom it sends
pub record JobState (Peer : Type 0) : Type 0 where
  pub told : Option Contents
  pub faults : ℕ
  pub index : Index
  pub sends : List Sent
  pub peer : Peer
  pub secret : List ℕ
  pub user : List ℕ

-- what a job has, by what its folder and its remote tell
abbrev pub state_of : {F R Peer : Type 0} → (told : F → Option Contents) → (faults : F → ℕ) → (sends : R → List Sent) → (peer : R → Peer) → Job F R → JobState Peer
state_of told faults sends peer job = record {
  told = told job.folder;
  faults = faults job.folder;
  index = job.index;
  sends = sends job.remote;
  peer = peer job.remote;
  secret = job.secret;
  user = job.user;
}

-- one sync of a job
pub record JobSo {Peer : Type 0} (shows : ℕ → Type 0) (before after : JobState Peer) (result : Result Synced SyncFault) : Type 0 where
  pub synced : SyncedAs before.secret before.user shows before.told after.told before.index after.index before.sends after.sends result
  pub faults : FolderRose before.faults after.faults result
  pub peer : after.peer ≡ before.peer
  pub secret : after.secret ≡ before.secret
  pub user : after.user ≡ before.user

-- each job is synced once, in their order
abbrev pub TurnSo : {Peer : Type 0} → (shows : ℕ → Type 0) → List (JobState Peer) → List (JobState Peer) → List (Result Synced SyncFault) → Type 0
TurnSo shows [] [] [] = ⊤
TurnSo shows (before ∷ jobs) (after ∷ others) (result ∷ results) = JobSo shows before after result × TurnSo shows jobs others results
TurnSo shows _ _ _ = ⊥

-- so many turns, one after another, with one result for each job and turn
abbrev pub TurnsSo : {Peer : Type 0} → (shows : ℕ → Type 0) → ℕ → List (JobState Peer) → List (JobState Peer) → List (Result Synced SyncFault) → Type 0
TurnsSo shows zero old new results = (new ≡ old) × (results ≡ [])
TurnsSo {Peer = Peer} shows (suc turns) old new results =
    (mid : List (JobState Peer)) × (first : List (Result Synced SyncFault)) × (rest : List (Result Synced SyncFault)) × (results ≡ first ++ rest)
    × TurnSo shows old mid first × TurnsSo shows turns mid new rest

-- ---- some of them

-- so many jobs were synced, in their order, with one result for each, and nothing was done to the others
abbrev pub Turning : {Peer : Type 0} → (shows : ℕ → Type 0) → (place : ℕ) → (old now : List (JobState Peer)) → List (Result Synced SyncFault) → Type 0
Turning shows zero old now results = (now ≡ old) × (results ≡ [])
Turning shows (suc place) (before ∷ old) (after ∷ now) (result ∷ results) = JobSo shows before after result × Turning shows place old now results
Turning shows (suc place) _ _ _ = ⊥

-- a turn that stopped at a job for which there was no room
abbrev pub StopsTurn : {Peer : Type 0} → (shows : ℕ → Type 0) → List (JobState Peer) → List (JobState Peer) → Type 0
StopsTurn shows old new = (place : ℕ) × (place < length new) × (results : List (Result Synced SyncFault)) × Turning shows place old new results

-- some whole turns, and one that stopped
abbrev pub StopsTurns : {Peer : Type 0} → (shows : ℕ → Type 0) → ℕ → List (JobState Peer) → List (JobState Peer) → Type 0
StopsTurns {Peer = Peer} shows turns old new =
    (done : ℕ) × (done < turns) × (mid : List (JobState Peer)) × (results : List (Result Synced SyncFault)) × TurnsSo shows done old mid results × StopsTurn shows mid new

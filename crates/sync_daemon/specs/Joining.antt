-- Where nothing was synced yet: the head that is asked for, and its commit where the folder has something. Our own. Read JoinsAs.
use Rattle.std.specs.Prelude.{ℕ, ◌≡◌, ◌≢◌, ◌⊎◌, ◌==◌, not, Bool, true, false, List, Option, None, Some, IsSome, Result, Ok, Err, ⊤}
use Rattle.std.specs.FinMap as fin
use Rattle.ids.specs.ObjectId.{nil}
use Rattle.commit_objects.specs.declared.commit.Commit.{Commit}
use Rattle.folder_side.specs.declared.scan_report.Scan.{Scan}
use Rattle.http_front.specs.declared.order.What.TheVariants as what
use Rattle.remote_calls.specs.Sends.{Sent}
use Rattle.sync_rules.specs.declared.fault.SyncFault.{SyncFault}
use Rattle.sync_rules.specs.declared.fault.SyncFault.TheVariants as fault
use Rattle.tree_fetch.specs.Asking.{FailsSo, order_of}
use Rattle.tree_fetch.specs.Fetching.{CommitFails, GotCommit}
use Rattle.tree_fetch.specs.declared.asker.Asker.{Asker}
use Rattle.sync_daemon.specs.Asking.{HeadSo}

-- a folder has something
abbrev pub has_seen : Scan → Bool
has_seen report = not (fin.len report.paths == 0)

-- the commit of the head was got by one order, and its root is forty zeros
abbrev pub GetsEmpty : Asker → List Sent → List Sent → (head : List ℕ) → Type 0
GetsEmpty asker old new head = (commit : Commit) × GotCommit asker old new head commit × (commit.root ≡ nil)

-- an order for the commit failed, or its root is another
abbrev pub FailsEmpty : Asker → List Sent → List Sent → (head : List ℕ) → SyncFault → Type 0
FailsEmpty asker old new head fault.NotEmpty = (commit : Commit) × GotCommit asker old new head commit × (commit.root ≢ nil)
FailsEmpty asker old new head f = CommitFails asker old new head f

abbrev pub EmptySo : Asker → List Sent → List Sent → (head : List ℕ) → Result ⊤ SyncFault → Type 0
EmptySo asker old new head (Ok done) = GetsEmpty asker old new head
EmptySo asker old new head (Err f) = FailsEmpty asker old new head f

-- nothing is got where the folder has nothing
abbrev pub IsGotFor : Bool → Asker → List Sent → List Sent → (head : List ℕ) → Type 0
IsGotFor true asker old new head = GetsEmpty asker old new head
IsGotFor false asker old new head = new ≡ old

-- the head was asked for where the index has no base
abbrev pub JoinsAs : Asker → (base : Option (List ℕ)) → Scan → List Sent → List Sent → Result (Option (List ℕ)) SyncFault → Type 0
JoinsAs asker base report old new (Ok None) = IsSome base × (new ≡ old)
JoinsAs asker base report old new (Ok (Some head)) = (base ≡ None) × (mid : List Sent) × HeadSo asker old mid (Ok head) × IsGotFor (has_seen report) asker mid new head
JoinsAs asker base report old new (Err f) = (base ≡ None) × (FailsSo old new (order_of asker (what.Head None)) f
    ⊎ ((mid : List Sent) × (head : List ℕ) × HeadSo asker old mid (Ok head) × (has_seen report ≡ true) × FailsEmpty asker mid new head f))

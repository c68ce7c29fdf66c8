-- What a sync keeps of a folder that tells what it holds, whatever it was sent: no premise on objects. Our own. Read KeepsUnpushed, at the
-- end, then LosesNothing with IsTakenIn, and TouchesPlanned with IsPlannedChange.
use Rattle.std.specs.Prelude.{ℕ, ◌≡◌, ◌≢◌, ◌⊎◌, Bool, true, false, is_some, List, [], ◌++◌, map, option_and_then, reverse, Option, None, Some, IsSome}
use Rattle.std.specs.FinMap as fin
use Rattle.std.specs.List.{filter_map, flat_map}
use Rattle.tree_model.specs.Path.{PathV, path_cmp}
use Rattle.block_chunker.specs.declared.cuts.Cuts.{Cuts}
use Rattle.commit_objects.specs.declared.commit.Commit.{Commit}
use Rattle.folder_side.specs.Folder.{Contents, at}
use Rattle.folder_side.specs.ScanReport.{IsScan, seen_of}
use Rattle.folder_side.specs.declared.scan_report.Scan.{Scan}
use Rattle.local_index.specs.declared.index.Index.{Index}
use Rattle.object_graph.specs.declared.entry.Entry.{Entry}
use Rattle.remote_calls.specs.Sends.{Sent}
use Rattle.sync_rules.specs.Causes.{DeniesUpload}
use Rattle.sync_rules.specs.Checkout.{is_one_of}
use Rattle.sync_rules.specs.InterruptedCheckout.{is_left}
use Rattle.sync_rules.specs.Named.{EndsAtUpdate, last_head, last_round}
use Rattle.sync_rules.specs.Offer.{Agrees}
use Rattle.tree_checkout.specs.Planning.{doomed_path, dues_at}
use Rattle.tree_checkout.specs.declared.planning.Due.{Due}
use Rattle.tree_fetch.specs.Fetching.{GotCommit, IsFetchedTree}
use Rattle.tree_fetch.specs.declared.asker.Asker.{Asker}
use Rattle.tree_fetch.specs.declared.tree.FetchedTree.{FetchedTree}
use Rattle.tree_push.specs.Pushing.{HoldsOffer, PutsChanged}

-- ---- nothing is lost

-- an update was answered that took in a commit of what the folder held: below its root just what is offered of it stands, and in the round
-- of that update, the last of `rounds`, all texts of the commit and all blocks of what is new or changed were asked about or sent, and
-- what was told to lack was sent
pub record IsTakenIn (asker : Asker) (user : List ℕ) (shows : ℕ → Type 0) (cuts : Cuts) (c : Contents) (i : Index) (more : List Sent) : Type 0 where
  pub rounds : List Sent
  pub gets : List Sent
  pub sent : more ≡ rounds ++ gets
  pub head : List ℕ
  pub id : List ℕ
  pub named : last_head rounds None ≡ Some (head, Some id)
  pub ends : EndsAtUpdate rounds id
  pub moment : ℕ
  pub shown : shows moment
  pub parent : List ℕ
  pub scan : Scan
  pub scanned : IsScan cuts c scan
  pub offer : HoldsOffer (record { lib = asker.lib; secret = asker.secret }) user moment parent i scan (last_round rounds []) id
  pub put : PutsChanged i scan (last_round rounds [])

-- it held just what the index knows, or what it held was taken in
abbrev pub IsKnownOrTaken : (asker : Asker) → (user : List ℕ) → (shows : ℕ → Type 0) → Cuts → Contents → Index → List Sent → Type 0
IsKnownOrTaken asker user shows cuts c i more = Agrees cuts c i ⊎ IsTakenIn asker user shows cuts c i more

-- one who may only read, whose folder differs from its index by a checkout to the head alone, that was interrupted: the library has all that
-- differs, or a checkout took it away. The commit of the head that was named last was got by the one order behind that, and then its whole tree:
-- each of its objects came. By the entries of that tree each path is as such a checkout leaves it, whatever else came
pub record ReadsOn (asker : Asker) (cuts : Cuts) (c : Contents) (i : Index) (more : List Sent) : Type 0 where
  pub rounds : List Sent
  pub mid : List Sent
  pub got : List Sent
  pub later : List Sent
  pub sent : more ≡ got ++ later
  pub head : List ℕ
  pub named : last_head rounds None ≡ Some (head, None)
  pub last : last_head more None ≡ Some (head, None)
  pub denies : DeniesUpload more
  pub commit : Commit
  pub fetched : GotCommit asker rounds mid head commit
  pub tree : FetchedTree
  pub whole : IsFetchedTree asker mid got commit.root tree
  pub base : List ℕ
  pub based : i.base ≡ Some base
  pub apart : base ≢ head
  pub left : (path : PathV) → is_left (option_and_then (seen_of cuts) (at c path)) (fin.get i.entries path) (fin.get tree.entries path) ≡ true

-- nothing is lost that the library was not given: the folder is as it was, or that is so
abbrev pub LosesNothing : (asker : Asker) → (user : List ℕ) → (shows : ℕ → Type 0) → Cuts → (c d : Contents) → Index → List Sent → Type 0
LosesNothing asker user shows cuts c d i more = (d ≡ c) ⊎ (IsKnownOrTaken asker user shows cuts c i more ⊎ ReadsOn asker cuts c i more)

-- ---- nothing but a plan is done

-- the paths that a plan for these entries removes, and those at which it writes
abbrev pub doomed_by : Scan → (entries : fin.FinMap path_cmp Entry) → List PathV
doomed_by scan entries = reverse (filter_map (doomed_path scan entries) (fin.entries scan.paths))

abbrev pub dues_by : Scan → Index → (entries : fin.FinMap path_cmp Entry) → (pushed : Bool) → List PathV
dues_by scan i entries pushed = map (λ (due : Due). due.path) (flat_map (dues_at scan i pushed) (fin.entries entries))

-- the commit of the head that was named last was got by the one order behind that, and then its whole tree: each of its objects came, and
-- nothing is wrong with it. All paths but those of the plan that it makes with the scan and the index hold what they held
pub record IsPlannedChange (asker : Asker) (cuts : Cuts) (c d : Contents) (i : Index) (more : List Sent) : Type 0 where
  pub rounds : List Sent
  pub mid : List Sent
  pub got : List Sent
  pub later : List Sent
  pub sent : more ≡ got ++ later
  pub head : List ℕ
  pub pushed : Option (List ℕ)
  pub named : last_head rounds None ≡ Some (head, pushed)
  pub commit : Commit
  pub fetched : GotCommit asker rounds mid head commit
  pub tree : FetchedTree
  pub whole : IsFetchedTree asker mid got commit.root tree
  pub scan : Scan
  pub scanned : IsScan cuts c scan
  pub others : (path : PathV) → is_one_of (doomed_by scan tree.entries ++ dues_by scan i tree.entries (is_some pushed)) path ≡ false → at d path ≡ at c path

-- the folder is as it was, or it differs at paths of a plan alone
abbrev pub TouchesPlanned : Asker → Cuts → (c d : Contents) → Index → List Sent → Type 0
TouchesPlanned asker cuts c d i more = (d ≡ c) ⊎ IsPlannedChange asker cuts c d i more

-- ---- both

pub record KeepsUnpushed (asker : Asker) (user : List ℕ) (shows : ℕ → Type 0) (cuts : Cuts) (told now : Option Contents) (i : Index) (more : List Sent) : Type 0 where
  pub tells : (c : Contents) → told ≡ Some c → IsSome now
  pub loses : (c d : Contents) → told ≡ Some c → now ≡ Some d → LosesNothing asker user shows cuts c d i more
  pub touches : (c d : Contents) → told ≡ Some c → now ≡ Some d → TouchesPlanned asker cuts c d i more

-- What the second half of a sync leaves: the index is made of what was seen, where the head is the commit that was pushed; else the
-- head's tree is got, and the folder is brought to it. Our own. Read FinishesAs, at the end, then KnowsOffered, BringsSo and Changes.
use Rattle.std.specs.Prelude.{ℕ, ◌≡◌, ◌⊎◌, ◌&&◌, not, Bool, true, false, List, [], ◌∷◌, length, map, Option, None, Some, option_map, Result, Ok, Err, ⊤, reverse}
use Rattle.std.specs.FinMap as fin
use Rattle.std.specs.List.{AllByRecursion, IsDistinct, flat_map, filter_map}
use Rattle.std.specs.Ordering.{eq_by_cmp}
use Rattle.std.specs.Str.{bytes_eq}
use Rattle.ids.specs.Key.{Objects}
use Rattle.ids.specs.ObjectId.{nil}
use Rattle.tree_model.specs.Path.{PathV, path_cmp}
use Rattle.block_chunker.specs.declared.cuts.Cuts.{Cuts}
use Rattle.commit_objects.specs.declared.commit.Commit.{Commit}
use Rattle.folder_side.specs.Folder.{Contents}
use Rattle.folder_side.specs.ScanReport.{IsScan, IsWithinLimits}
use Rattle.folder_side.specs.declared.scan_report.Scan.{Scan}
use Rattle.folder_side.specs.declared.scan_report.Seen.{Seen}
use Rattle.folder_side.specs.declared.scan_report.Seen.TheVariants as seen
use Rattle.library_state.specs.declared.refusal.Refusal.TheVariants as refusal
use Rattle.local_index.specs.OwnIds.{own_id}
use Rattle.local_index.specs.declared.index.Index.{Index}
use Rattle.local_index.specs.declared.index.Known.{Known}
use Rattle.local_index.specs.declared.index.Known.TheVariants as known
use Rattle.object_graph.specs.declared.entry.Entry.{Entry}
use Rattle.object_graph.specs.declared.entry.Entry.TheVariants as entry
use Rattle.remote_calls.specs.Sends.{Sent}
use Rattle.sync_rules.specs.Checkout.{Step, run}
use Rattle.sync_rules.specs.declared.fault.SyncFault.{SyncFault}
use Rattle.sync_rules.specs.declared.fault.SyncFault.TheVariants as fault
use Rattle.sync_rules.specs.declared.synced.Synced.{Synced}
use Rattle.tree_walk.specs.Files.{file_at}
use Rattle.tree_checkout.specs.CheckingOut.{ChecksOut, StopsOut}
use Rattle.tree_checkout.specs.Planning.{IsPlanFault, LooksScanned, PlansSo, dues_at, doomed_path}
use Rattle.tree_checkout.specs.SecondLook.{LooksFirst}
use Rattle.tree_checkout.specs.Steps.{LooksUnwritten, paths_of}
use Rattle.tree_checkout.specs.Writing.{is_change}
use Rattle.tree_checkout.specs.declared.block_gets.Source.{Source}
use Rattle.tree_checkout.specs.declared.planning.Due.{Due}
use Rattle.tree_checkout.specs.declared.planning.DueNode.{DueNode}
use Rattle.tree_checkout.specs.declared.planning.DueNode.TheVariants as due
use Rattle.tree_checkout.specs.declared.planning.Plan.{Plan}
use Rattle.tree_checkout.specs.declared.steps.Write.{Write}
use Rattle.tree_checkout.specs.declared.steps.WriteNode.{WriteNode}
use Rattle.tree_checkout.specs.declared.steps.WriteNode.TheVariants as write
use Rattle.tree_push.specs.ChangedOwns.{own_or_known}
use Rattle.tree_push.specs.OfferedEntries.{IsSeenFolder, KnownPaths, SeenPaths, file_entry, offered_entry}
use Rattle.tree_fetch.specs.Fetching.{FetchesCommit, FetchesTree, IsFetchedCommit, IsFetchedTree, GotCommit}
use Rattle.tree_fetch.specs.declared.asker.Asker.{Asker}
use Rattle.tree_fetch.specs.declared.tree.FetchedTree.{FetchedTree}
use Rattle.sync_daemon.specs.Finishing.{spared_of}
use Rattle.sync_daemon.specs.InterruptedCheckout.{IsSeenLeft}
use Rattle.sync_daemon.specs.declared.bringing.Done.{Done}
use Rattle.sync_daemon.specs.declared.round.Settled.{Settled}

-- ---- what is written

-- what is written for what is due: of a file the object that was got
abbrev pub IsMade : (held : Objects) → DueNode → WriteNode → Type 0
IsMade held due.Dir write.Dir = ⊤
IsMade held (due.File id) (write.File file) = (file.id ≡ id) × (file_at held id ≡ Ok file.object)
IsMade held _ _ = ⊥

abbrev pub IsWriteOf : (held : Objects) → Due → Write → Type 0
IsWriteOf held d w = (w.path ≡ d.path) × IsMade held d.node w.node

abbrev pub AreMade : (held : Objects) → List Due → List Write → Type 0
AreMade held [] [] = ⊤
AreMade held (d ∷ dues) (w ∷ writes) = IsWriteOf held d w × AreMade held dues writes
AreMade held _ _ = ⊥

-- ---- the entries of the new index

-- the ids of the files that were written, at their paths; a Dir has none
abbrev pub AreOwns : Type 0
AreOwns = fin.FinMap path_cmp (List ℕ)

abbrev pub node_own : AreOwns → PathV → WriteNode → (owns : List (List ℕ)) → AreOwns
node_own owns path write.Dir left = owns
node_own owns path (write.File file) [] = owns
node_own owns path (write.File file) (own ∷ left) = fin.insert owns path own

abbrev pub left_own : WriteNode → List (List ℕ) → List (List ℕ)
left_own write.Dir left = left
left_own (write.File file) [] = []
left_own (write.File file) (own ∷ left) = left

abbrev pub with_owns : AreOwns → List Write → List (List ℕ) → AreOwns
with_owns owns [] left = owns
with_owns owns (w ∷ writes) left = with_owns (node_own owns w.path w.node left) writes (left_own w.node left)

-- the own id of what was seen; forty zeros of no file
abbrev pub seen_own : Option Seen → List ℕ
seen_own (Some (seen.File blocks size)) = own_id blocks size
seen_own _ = nil

-- a file has the own id with which it was written, or with which it was seen where it was left alone
abbrev pub own_or : (written : Option (List ℕ)) → Option Seen → List ℕ
own_or (Some own) s = own
own_or None s = seen_own s

abbrev pub own_at : Scan → AreOwns → PathV → List ℕ
own_at scan owns path = own_or (fin.get owns path) (fin.get scan.paths path)

-- what is known of an entry
abbrev pub known_of : (own : List ℕ) → Entry → Known
known_of own entry.Dir = known.Dir
known_of own (entry.File id mode mtime modifier size) = known.File id own size mode mtime modifier

abbrev pub KnowsAs : Scan → AreOwns → (entries : fin.FinMap path_cmp Entry) → (index : fin.FinMap path_cmp Known) → Type 0
KnowsAs scan owns entries index = (path : PathV) → fin.get index path ≡ option_map (known_of (own_at scan owns path)) (fin.get entries path)

-- ---- a plan is done

abbrev pub source_of : Asker → Source
source_of asker = record { lib = asker.lib; secret = asker.secret }

-- a change is told only where something else stands than was seen first
abbrev pub ChangesNot : Cuts → Scan → (doomed : List PathV) → List Write → (told : Option Contents) → SyncFault → Type 0
ChangesNot cuts scan doomed writes told f = (c : Contents) → told ≡ Some c → IsDistinct (eq_by_cmp path_cmp) doomed → AllByRecursion (LooksFirst cuts c scan) doomed
    → IsDistinct (eq_by_cmp path_cmp) (paths_of writes) → AllByRecursion (LooksUnwritten cuts (run (map Step.Removed doomed) c) scan) writes → is_change f ≡ false

-- all of it was done, and this is known then
pub record Changes (asker : Asker) (cuts : Cuts) (scan : Scan) (entries : fin.FinMap path_cmp Entry) (plan : Plan) (writes : List Write) (old new : List Sent)
    (told now : Option Contents) (done : Done) : Type 0 where
  pub owns : List (List ℕ)
  pub out : ChecksOut (source_of asker) plan.doomed writes cuts old new told now owns
  pub knows : KnowsAs scan (with_owns fin.empty writes owns) entries done.entries
  pub held : done.held ≡ plan.held
  pub written : done.written ≡ length owns
  pub removed : done.removed ≡ length plan.doomed

-- it stopped; memory may be wanting before the first step and after the last too
abbrev pub StopsChange : Asker → Cuts → Scan → Plan → List Write → (old new : List Sent) → (told now : Option Contents) → SyncFault → Type 0
StopsChange asker cuts scan plan writes old new told now f =
    ((new ≡ old) × (now ≡ told) × (f ≡ fault.NoMemory))
    ⊎ ((StopsOut (source_of asker) plan.doomed writes scan cuts old new told now f × ChangesNot cuts scan plan.doomed writes told f)
    ⊎ ((owns : List (List ℕ)) × ChecksOut (source_of asker) plan.doomed writes cuts old new told now owns × (f ≡ fault.NoMemory)))

abbrev pub ChangesSo : Asker → Cuts → Scan → (entries : fin.FinMap path_cmp Entry) → Plan → List Write → (old new : List Sent) → (told now : Option Contents)
    → Result Done SyncFault → Type 0
ChangesSo asker cuts scan entries plan writes old new told now (Ok done) = Changes asker cuts scan entries plan writes old new told now done
ChangesSo asker cuts scan entries plan writes old new told now (Err f) = StopsChange asker cuts scan plan writes old new told now f

-- ---- a tree is got, and the folder brought to it

-- a plan for these entries
pub record IsPlanned (scan : Scan) (index : Index) (entries : fin.FinMap path_cmp Entry) (pushed : Bool) (plan : Plan) : Type 0 where
  pub plans : (cuts : Cuts) (c : Contents) → IsScan cuts c scan → PlansSo cuts c index entries pushed (Ok plan)
  pub looks : (cuts : Cuts) (c : Contents) → IsScan cuts c scan → IsWithinLimits c → LooksScanned cuts c scan plan
  pub gone : plan.doomed ≡ reverse (filter_map (doomed_path scan entries) (fin.entries scan.paths))
  pub written : plan.writes ≡ flat_map (dues_at scan index pushed) (fin.entries entries)

-- there is none
abbrev pub IsUnplanned : Scan → Index → (entries : fin.FinMap path_cmp Entry) → Bool → SyncFault → Type 0
IsUnplanned scan index entries pushed f = IsPlanFault f × ((cuts : Cuts) (c : Contents) → IsScan cuts c scan → PlansSo cuts c index entries pushed (Err f))

-- a folder that differs from its index and may not be pushed is as a checkout leaves it that was interrupted
abbrev pub MayChange : (differs : Bool) → SeenPaths → KnownPaths → (entries : fin.FinMap path_cmp Entry) → Type 0
MayChange differs seens knowns entries = differs ≡ true → IsSeenLeft seens knowns entries

-- a tree was got, the folder may be changed, a plan was made for it, and all that it writes of files was got
pub record IsReady (asker : Asker) (scan : Scan) (index : Index) (pushed differs : Bool) (old mid : List Sent) (root : List ℕ) (tree : FetchedTree) (plan : Plan) (writes : List Write) : Type 0 where
  pub fetched : IsFetchedTree asker old mid root tree
  pub may : MayChange differs scan.paths index.entries tree.entries
  pub planned : IsPlanned scan index tree.entries pushed plan
  pub made : AreMade tree.objects plan.writes writes

-- a tree was got, but no step of a plan is begun: the folder may not be changed, there is no plan, or memory was wanting
abbrev pub IsUnready : Scan → Index → (pushed differs : Bool) → FetchedTree → SyncFault → Type 0
IsUnready scan index pushed differs tree f =
    (((MayChange differs scan.paths index.entries tree.entries → ⊥) × (f ≡ fault.Refused refusal.Denied))
    ⊎ (MayChange differs scan.paths index.entries tree.entries × (IsUnplanned scan index tree.entries pushed f ⊎ (f ≡ fault.NoMemory))))

abbrev pub BringsSo : Asker → Cuts → Scan → Index → (pushed differs : Bool) → (root : List ℕ) → (old new : List Sent) → (told now : Option Contents) → Result Done SyncFault → Type 0
BringsSo asker cuts scan index pushed differs root old new told now (Ok done) = (mid : List Sent) × (tree : FetchedTree) × (plan : Plan) × (writes : List Write)
    × IsReady asker scan index pushed differs old mid root tree plan writes × Changes asker cuts scan tree.entries plan writes mid new told now done
BringsSo asker cuts scan index pushed differs root old new told now (Err f) =
    (FetchesTree asker old new root (Err f) × (now ≡ told))
    ⊎ (((tree : FetchedTree) × IsFetchedTree asker old new root tree × (now ≡ told) × IsUnready scan index pushed differs tree f)
    ⊎ ((mid : List Sent) × (tree : FetchedTree) × (plan : Plan) × (writes : List Write)
    × IsReady asker scan index pushed differs old mid root tree plan writes × StopsChange asker cuts scan plan writes mid new told now f))

-- ---- the head is the commit that was pushed

-- it is, and what was seen is what stands in a folder, as it is of each folder that tells what it holds
abbrev pub IsOwnHead : Settled → Index → Type 0
IsOwnHead settled index = (settled.pushed ≡ Some settled.head) × IsSeenFolder index.entries settled.scan.paths

-- what is known of what was seen and offered: its entry, and the own id with which it was seen
abbrev pub offered_known : (moment : ℕ) → (user : List ℕ) → Option Known → Seen → Known
offered_known moment user was s = known_of (seen_own (Some s)) (offered_entry moment user was s)

-- the same, a file by the own id of one that is new or changed, or else by the one that is known; for a private clause
abbrev pub known_by : (moment : ℕ) → (user : List ℕ) → (changed : Option (List ℕ)) → Option Known → Seen → Known
known_by moment user changed was seen.Dir = known.Dir
known_by moment user changed was (seen.File blocks size) = known_of (own_or_known changed was) (file_entry moment user was (own_or_known changed was) size)

abbrev pub KnowsOffered : (moment : ℕ) → (user : List ℕ) → KnownPaths → SeenPaths → KnownPaths → Type 0
KnowsOffered moment user knowns seens entries =
    (path : PathV) → fin.get entries path ≡ option_map (offered_known moment user (fin.get knowns path)) (fin.get seens path)

-- so an index knows what was offered, with the head as its base
abbrev pub IsOfferedIndex : (user : List ℕ) → Settled → (index later : Index) → Type 0
IsOfferedIndex user settled index later = (entries : KnownPaths) × KnowsOffered settled.moment user index.entries settled.scan.paths entries
    × (later ≡ record { lib = index.lib; base = Some settled.head; entries = entries })

abbrev pub KnowsSo : (user : List ℕ) → Settled → (index later : Index) → Result Synced SyncFault → Type 0
KnowsSo user settled index later (Ok s) = IsOfferedIndex user settled index later × (s ≡ spared_of settled)
KnowsSo user settled index later (Err f) = (later ≡ index) × (f ≡ fault.NoMemory)

-- ---- all of the second half

-- nothing is to be done: nothing was pushed, and the head is the base
abbrev pub IsDone : Settled → Index → Type 0
IsDone settled index = (settled.pushed ≡ None) × (index.base ≡ Some settled.head)

abbrev pub tells_conflict : (pushed : Option (List ℕ)) → (head : List ℕ) → (told : Bool) → Bool
tells_conflict None head told = false
tells_conflict (Some commit) head told = told && not (bytes_eq commit head)

abbrev pub is_pushed : Option (List ℕ) → Bool
is_pushed None = false
is_pushed (Some commit) = true

-- what is told of it
abbrev pub synced_of : Settled → Commit → Done → Synced
synced_of settled commit done = record {
  head = settled.head;
  pushed = settled.pushed;
  conflict = tells_conflict settled.pushed settled.head commit.conflict;
  written = done.written;
  removed = done.removed;
  skipped = settled.scan.skipped;
  held = done.held;
}

abbrev pub index_of : Index → Settled → Done → Index
index_of index settled done = record { lib = index.lib; base = Some settled.head; entries = done.entries }

-- the head's commit and its tree were got, and the folder was brought to it
abbrev pub ReachesAs : Asker → Cuts → Settled → (old new : List Sent) → (told now : Option Contents) → (index later : Index) → Result Synced SyncFault → Type 0
ReachesAs asker cuts settled old new told now index later (Ok s) = (mid : List Sent) × (commit : Commit) × (done : Done) × IsFetchedCommit asker old mid settled.head commit × GotCommit asker old mid settled.head commit
    × BringsSo asker cuts settled.scan index (is_pushed settled.pushed) settled.differs commit.root mid new told now (Ok done)
    × (later ≡ index_of index settled done) × (s ≡ synced_of settled commit done)
ReachesAs asker cuts settled old new told now index later (Err f) = (later ≡ index) × ((FetchesCommit asker old new settled.head (Err f) × (now ≡ told))
    ⊎ ((mid : List Sent) × (commit : Commit) × IsFetchedCommit asker old mid settled.head commit × GotCommit asker old mid settled.head commit
    × BringsSo asker cuts settled.scan index (is_pushed settled.pushed) settled.differs commit.root mid new told now (Err f)))

-- no step is begun: the library did not go on from the index's base, and yet the folder differs; or memory was wanting
abbrev pub IsIdle : Settled → Index → SyncFault → Type 0
IsIdle settled index f = (IsDone settled index × (settled.differs ≡ true) × (f ≡ fault.Refused refusal.Denied)) ⊎ (f ≡ fault.NoMemory)

-- nothing is got where nothing is to be done, nor where the head is the commit that was pushed
abbrev pub FinishesAs : Asker → (user : List ℕ) → Cuts → Settled → (old new : List Sent) → (told now : Option Contents) → (index later : Index) → Result Synced SyncFault → Type 0
FinishesAs asker user cuts settled old new told now index later (Ok s) =
    (IsDone settled index × (settled.differs ≡ false) × (new ≡ old) × (now ≡ told) × (later ≡ index) × (s ≡ spared_of settled))
    ⊎ ((IsOwnHead settled index × (new ≡ old) × (now ≡ told) × KnowsSo user settled index later (Ok s))
    ⊎ ((IsDone settled index → ⊥) × (IsOwnHead settled index → ⊥) × ReachesAs asker cuts settled old new told now index later (Ok s)))
FinishesAs asker user cuts settled old new told now index later (Err f) =
    ((new ≡ old) × (now ≡ told) × (later ≡ index) × IsIdle settled index f) ⊎ ((IsDone settled index → ⊥) × ReachesAs asker cuts settled old new told now index later (Err f))

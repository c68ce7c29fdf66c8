-- The cause of each fault of a sync, and which comes where two have theirs. Our own. Read CausedBy first, then CausedOver, EndsSo and
-- CausesOf.
use Rattle.std.specs.Prelude.{ℕ, ◌≡◌, ◌≢◌, ◌≤◌, ◌⊎◌, ℤ, ◌||◌, not, Bool, true, false, All, List, [], ◌∷◌, ◌++◌, length, Option, None, Some, IsSome, Result, Ok, Err, if◌then◌else◌, ⊤}
use Rattle.std.specs.FinMap as fin
use Rattle.std.specs.List.{Contains, filter_map, flat_map}
use Rattle.sha1.specs.Sha1.{sha1}
use Rattle.ids.specs.FaultCount.{FailsBy}
use Rattle.ids.specs.Key.{Objects}
use Rattle.ids.specs.ObjectId.{nil}
use Rattle.ids.specs.declared.key.Key.{Key}
use Rattle.ids.specs.declared.key.Kind.TheVariants as kind
use Rattle.tree_model.specs.Path.{PathV}
use Rattle.tree_model.specs.Tree.{Tree}
use Rattle.block_chunker.specs.declared.cuts.Cuts.{Cuts}
use Rattle.commit_objects.specs.Commit.{commit_of}
use Rattle.commit_objects.specs.declared.commit.Commit.{Commit}
use Rattle.fs_objects.specs.declared.file_object.FileObject.{FileObject}
use Rattle.fs_objects.specs.declared.fs_object.FsObject.TheVariants as fs
use Rattle.library_state.specs.declared.call.Op.TheVariants as op
use Rattle.library_state.specs.declared.refusal.Refusal.{Refusal}
use Rattle.library_state.specs.declared.refusal.Refusal.TheVariants as refusal
use Rattle.library_state.specs.declared.reply.Reply.TheVariants as reply
use Rattle.library_state.specs.declared.tag.Tag.{Tag}
use Rattle.object_graph.specs.Objects.{commit_at, commit_key, entry_below, fs_at, joined}
use Rattle.object_graph.specs.Traversal.{start, walk_root}
use Rattle.object_graph.specs.declared.entry.Entry.TheVariants as entry
use Rattle.tree_walk.specs.Reading.{IsDue}
use Rattle.tree_walk.specs.declared.fault.WalkFault.{WalkFault}
use Rattle.tree_walk.specs.declared.fault.WalkFault.TheVariants as walk
use Rattle.folder_side.specs.Folder.{Contents}
use Rattle.folder_side.specs.ScanReport.{IsPastLimit}
use Rattle.folder_side.specs.WorkingTree.{held_at}
use Rattle.folder_side.specs.declared.error.ScanFault.TheVariants as scan
use Rattle.local_index.specs.declared.index.Index.{Index}
use Rattle.http_front.specs.declared.order.Order.{Order}
use Rattle.http_front.specs.declared.order.What.{What}
use Rattle.http_front.specs.declared.order.What.TheVariants as what
use Rattle.http_front.specs.declared.outcome.Outcome.{Outcome}
use Rattle.http_front.specs.declared.outcome.Outcome.TheVariants.{Plain, Refused}
use Rattle.remote_calls.specs.Sends.{Ending, Sent}
use Rattle.sync_rules.specs.Checkout.{first_blocked}
use Rattle.sync_rules.specs.InterruptedCheckout.{IsChangedByReader}
use Rattle.sync_rules.specs.Named.{GetsNamed, HasGot, got_in, last_head}
use Rattle.sync_rules.specs.Synced.{IsHeadTree}
use Rattle.sync_rules.specs.declared.fault.SyncFault.{SyncFault}
use Rattle.sync_rules.specs.declared.fault.SyncFault.TheVariants as fault
use Rattle.sync_rules.specs.declared.synced.Synced.{Synced}

-- ---- the cause of each fault

-- the last send of the call
abbrev pub IsLast : List Sent → Order → Ending → Type 0
IsLast more order ending = (before : List Sent) × (more ≡ before ++ (order, ending) ∷ [])

-- an order that was refused so, however its reply tells it
abbrev pub IsRefusedBy : Ending → Refusal → Type 0
IsRefusedBy (Ok (Plain (reply.Refused why) tag)) r = why ≡ r
IsRefusedBy (Ok (Refused why)) r = why ≡ r
IsRefusedBy _ r = ⊥

-- a refusal that a sync may tell: not that an update came too late, nor that an upload is denied
abbrev pub ends_sync : What → Refusal → Bool
ends_sync asked (refusal.Stale last now) = false
ends_sync (what.Check op.Upload) refusal.Denied = false
ends_sync _ _ = true

-- the library had no memory for a long list of objects, which may be asked for in parts
abbrev pub is_too_long : What → Refusal → Bool
is_too_long (what.GetFs (id ∷ next ∷ ids)) refusal.NoMemory = true
is_too_long _ _ = false

-- an order went well: nothing failed, it was not refused but so that a sync goes on, and what it was given came under its name
abbrev pub goes_on_by : What → Outcome → Bool
goes_on_by asked (Plain (reply.Refused why) tag) = not (ends_sync asked why) || is_too_long asked why
goes_on_by asked (Refused why) = not (ends_sync asked why) || is_too_long asked why
goes_on_by asked _ = true

abbrev pub goes_on : What → Ending → Bool
goes_on asked (Ok outcome) = goes_on_by asked outcome
goes_on asked (Err f) = false

abbrev pub WentWell : Sent → Type 0
WentWell sent = (goes_on sent.0.what sent.1 ≡ true) × GetsNamed sent

-- each order but the last went well: the first that doesn't ends the sync
abbrev pub GoesWell : List Sent → Type 0
GoesWell [] = ⊤
GoesWell (sent ∷ []) = ⊤
GoesWell (sent ∷ next ∷ more) = WentWell sent × GoesWell (next ∷ more)

abbrev pub DeniesUpload : List Sent → Type 0
DeniesUpload more = (order : Order) × (ending : Ending) × Contains more (order, ending) × (order.what ≡ what.Check op.Upload) × IsRefusedBy ending refusal.Denied

-- an update that came too late
abbrev pub is_stale : Ending → Bool
is_stale (Ok (Plain (reply.Refused (refusal.Stale last now)) tag)) = true
is_stale (Ok (Refused (refusal.Stale last now))) = true
is_stale _ = false

-- how many updates came too late
abbrev pub stale_count : List Sent → ℕ
stale_count sends = length (filter_map (λ sent. if is_stale sent.1 then Some sent else None) sends)

-- the bytes that were got last for a commit spell none of its name
abbrev pub IsBadCommit : List Sent → WalkFault → Type 0
IsBadCommit more (walk.Unreadable key) = (order : Order) × (bytes : List ℕ) × (tag : Tag) × IsLast more order (Ok (Plain (reply.Got bytes) tag))
    × (order.what ≡ what.Get key) × (key.kind ≡ kind.Commit) × ((commit : Commit) → commit_of bytes ≡ Ok commit → commit.id ≡ key.id → ⊥)
IsBadCommit more why = ⊥

-- the last two sends asked for the head and got its commit, whose root isn't forty zeros
pub record FindsSome (more : List Sent) : Type 0 where
  pub before : List Sent
  pub asked : Order
  pub head : List ℕ
  pub tag : Tag
  pub asks : asked.what ≡ what.Head None
  pub got : Order
  pub bytes : List ℕ
  pub later : Tag
  pub gets : got.what ≡ what.Get (commit_key head)
  pub is : more ≡ before ++ ((asked, Ok (Plain (reply.HeadIs head) tag)) ∷ (got, Ok (Plain (reply.Got bytes) later)) ∷ [])
  pub commit : Commit
  pub spells : commit_of bytes ≡ Ok commit
  pub named : commit.id ≡ head
  pub some : commit.root ≢ nil

-- what is wrong with the tree of a root: the blocks of a file have another size than it tells, or the first fault of the traversal
-- that looks at no block
abbrev pub IsWrongTree : Objects → (root : List ℕ) → WalkFault → Type 0
IsWrongTree objects root (walk.WrongSize id) = (path : PathV) × (mode : ℕ) × (mtime : ℤ) × (modifier : List ℕ) × (size : ℕ)
    × (entry_below objects path root ≡ Some (entry.File id mode mtime modifier size)) × (file : FileObject) × (fs_at objects id ≡ Ok (fs.File file))
    × (file.size ≢ length (joined objects file.blocks))
IsWrongTree objects root (walk.Store why) = ⊥
IsWrongTree objects root why = IsDue objects (walk_root false objects root start).fault why

-- the same of the head's tree, over any objects that have what was got
abbrev pub IsBadTree : List Sent → WalkFault → Type 0
IsBadTree more why = (head : List ℕ) × (pushed : Option (List ℕ)) × (last_head more None ≡ Some (head, pushed))
    × ((objects : Objects) → HasGot objects more → (commit : Commit) × (commit_at objects head ≡ Ok commit) × IsWrongTree objects commit.root why)

-- what is so of the sends alone, over any folder, and what else has to be so here; of a part of a sync too. What is found without an order
-- comes only where each order went well
abbrev pub CausedBy : (here : SyncFault → Type 0) → List Sent → SyncFault → Type 0
CausedBy here more (fault.Remote f) = (order : Order) × IsLast more order (Err f)
CausedBy here more (fault.Refused r) =
    ((order : Order) × (ending : Ending) × IsLast more order ending × IsRefusedBy ending r × (ends_sync order.what r ≡ true))
    ⊎ ((r ≡ refusal.Denied) × DeniesUpload more × All WentWell more × here (fault.Refused r))
CausedBy here more (fault.Damaged want got) = (key : Key) × (bytes : List ℕ) × (key.id ≡ want) × (got ≡ sha1 bytes) × (got ≢ want)
    × (key.kind ≢ kind.Commit) × Contains (flat_map got_in more) (key, Some bytes)
CausedBy here more (fault.Stale now) =
    (order : Order) × (ending : Ending) × (last : ℕ) × IsLast more order ending × IsRefusedBy ending (refusal.Stale last now)
    × (stale_count more ≡ 3)
CausedBy here more fault.NotEmpty = FindsSome more × here fault.NotEmpty
CausedBy here more (fault.BadTree why) = IsBadCommit more why ⊎ (All WentWell more × here (fault.BadTree why))
CausedBy here more fault.NoMemory = ⊤
CausedBy here more f = here f

-- the folder visibly has something
abbrev pub HasPath : Contents → Type 0
HasPath c = (path : PathV) × IsSome (held_at c path)

-- what is wrong with the head's tree, over any objects that have what was got; and a folder, where it tells what it holds, and its index:
-- that they differ, and not by a checkout that was interrupted, what is too much for a scan, that nothing was synced yet and the folder
-- has something. A folder that tells what it holds never changes meanwhile. That the folder failed and that memory was wanting is told by
-- the sync's own words
abbrev pub IsSoHere : Cuts → Option Contents → Index → List Sent → SyncFault → Type 0
IsSoHere cuts told index more (fault.Refused r) = (c : Contents) → told ≡ Some c → IsChangedByReader cuts c index more
IsSoHere cuts told index more (fault.Scan scan.Folder) = ⊥
IsSoHere cuts told index more (fault.Scan scan.NoMemory) = ⊥
IsSoHere cuts told index more (fault.Scan why) = (c : Contents) → told ≡ Some c → IsPastLimit c why
IsSoHere cuts told index more (fault.BadTree (walk.Store why)) = ⊥
IsSoHere cuts told index more (fault.BadTree why) = IsBadTree more why
IsSoHere cuts told index more (fault.Changed path) = (c : Contents) → told ≡ Some c → ⊥
IsSoHere cuts told index more fault.NotEmpty = (index.base ≡ None) × ((c : Contents) → told ≡ Some c → HasPath c)
IsSoHere cuts told index more f = ⊤

-- what is so over a folder that tells what it holds, and the head's tree
abbrev pub CausedOver : Objects → Contents → List Sent → SyncFault → Type 0
CausedOver objects c more (fault.Blocked path) = (tree : Tree) × (heads : IsHeadTree objects more tree)
    × ((walk_root false objects heads.commit.root start).fault ≡ None) × (first_blocked c (fin.entries tree) ≡ Some path)
CausedOver objects c more _ = ⊤

-- ---- of every folder and remote

-- the count of the folder's faults rose where it failed, and else stayed
abbrev pub is_folder_fault : SyncFault → Bool
is_folder_fault fault.Folder = true
is_folder_fault _ = false

abbrev pub FolderRose : ℕ → ℕ → Result Synced SyncFault → Type 0
FolderRose before now result = FailsBy is_folder_fault before now result

-- for a part of a sync that only asks for objects: a fault that tells that something came under another name, or that may come in the
-- place of one that does
abbrev pub is_of_name : SyncFault → Bool
is_of_name (fault.Damaged want got) = true
is_of_name (fault.BadTree (walk.Unreadable key)) = true
is_of_name fault.NoMemory = true
is_of_name _ = false

-- a fault that the last order was the cause of, or that may come in the place of one that it was
abbrev pub is_of_order : SyncFault → Bool
is_of_order (fault.Remote f) = true
is_of_order (fault.Refused r) = true
is_of_order (fault.Damaged want got) = true
is_of_order (fault.BadTree (walk.Unreadable key)) = true
is_of_order fault.NoMemory = true
is_of_order _ = false

-- that three updates came too late
abbrev pub is_late : SyncFault → Bool
is_late (fault.Stale now) = true
is_late _ = false

-- each fault has its cause in the sends of the call, and comes where that is: an order that doesn't go well ends a sync, and so does
-- the third update that came too late. A sync that ends well tells the head that was named last, and what was pushed for it
abbrev pub EndsSo : (here : SyncFault → Type 0) → List Sent → Result Synced SyncFault → Type 0
EndsSo here more (Ok s) = All WentWell more × (stale_count more ≤ 2) × (last_head more None ≡ Some (s.head, s.pushed))
EndsSo here more (Err f) = GoesWell more × CausedBy here more f × (is_of_order f ≡ false → All WentWell more) × (is_late f ≡ false → stale_count more ≤ 2)

abbrev pub CausesOf : Cuts → Option Contents → Index → List Sent → List Sent → Result Synced SyncFault → Type 0
CausesOf cuts told index old new result = (more : List Sent) × (new ≡ old ++ more) × EndsSo (IsSoHere cuts told index more) more result

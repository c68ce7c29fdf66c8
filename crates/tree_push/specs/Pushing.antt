-- What the push of one round sends, and what comes of it. Our own. Read PushesSo, at the end, then OffersOnce, StandAsSeen and HoldsOffer.
use Rattle.std.specs.Prelude.{ℕ, ◌≡◌, Bool, true, false, All, List, [], ◌∷◌, ◌++◌, Option, None, Some, option_and_then, option_map, Result, Ok, Err, IfErr, ⊤, ◌⊎◌, IsSome}
use Rattle.std.specs.FinMap as fin
use Rattle.ids.specs.Key.{Objects}
use Rattle.ids.specs.declared.key.Key.{Key}
use Rattle.tree_model.specs.Path.{PathV}
use Rattle.tree_model.specs.Tree.{Tree}
use Rattle.block_chunker.specs.declared.cuts.Cuts.{Cuts}
use Rattle.folder_side.specs.Folder.{Contents, IsFolder, at}
use Rattle.folder_side.specs.ScanReport.{IsScan, IsWithinLimits, seen_of}
use Rattle.folder_side.specs.declared.scan_report.Scan.{Scan}
use Rattle.folder_side.specs.declared.scan_report.Seen.TheVariants as seen
use Rattle.local_index.specs.OwnIds.{own_id}
use Rattle.local_index.specs.declared.index.Index.{Index}
use Rattle.object_graph.specs.Objects.{block_key, commit_key, entry_below}
use Rattle.object_graph.specs.Traversal.{is_in}
use Rattle.object_graph.specs.Unchanged.{Keeps}
use Rattle.http_front.specs.declared.order.Order.{Order}
use Rattle.http_front.specs.declared.order.What.TheVariants as what
use Rattle.http_front.specs.declared.outcome.Outcome.TheVariants.{Plain}
use Rattle.library_state.specs.declared.refusal.Refusal.TheVariants as refusal
use Rattle.library_state.specs.declared.reply.Reply.TheVariants as reply
use Rattle.library_state.specs.declared.tag.Tag.{Tag}
use Rattle.remote_calls.specs.Sends.{Ending, Sent}
use Rattle.sync_rules.specs.Causes.{CausedBy, GoesWell, IsRefusedBy, WentWell, is_of_order, stale_count}
use Rattle.sync_rules.specs.Named.{AreTextsOf, IsHad, is_upload, keys_lacked, keys_named, keys_put}
use Rattle.sync_rules.specs.Offer.{IsOffer}
use Rattle.sync_rules.specs.Orders.{GoesInRounds, IsSyncOrder, MadeSo, PutsLacked}
use Rattle.sync_rules.specs.Orders.Stage.{Uploads}
use Rattle.sync_rules.specs.Premises.{Over}
use Rattle.sync_rules.specs.Uploads.{IsUploadOf}
use Rattle.sync_rules.specs.declared.fault.SyncFault.{SyncFault}
use Rattle.sync_rules.specs.declared.fault.SyncFault.TheVariants as fault
use Rattle.tree_push.specs.OfferedEntries.{IsSeenFolder, is_kept, offered_entry}
use Rattle.tree_push.specs.OfferedTree.{IsMadeOf}
use Rattle.tree_push.specs.SentOnce.{SendsOnce}
use Rattle.tree_push.specs.Standing.{IsOwnCommit}
use Rattle.tree_push.specs.Wanted.{IsIn, IsChangedBlock}
use Rattle.tree_push.specs.declared.asking.Library.{Library}
use Rattle.tree_push.specs.declared.standing.Pushed.{Pushed}
use Rattle.tree_push.specs.declared.standing.Pushed.TheVariants.{Installed, Late}

-- a fault that no order tells
abbrev pub IsPushFault : SyncFault → Type 0
IsPushFault fault.Folder = ⊤
IsPushFault (fault.Changed path) = ⊤
IsPushFault _ = ⊥

abbrev pub is_change : SyncFault → Bool
is_change (fault.Changed path) = true
is_change _ = false

-- the library stands at the commit, or it came too late; or the push stopped
abbrev pub EndsPush : List Sent → Result Pushed SyncFault → Type 0
EndsPush more (Ok (Installed commit head)) = All WentWell more × (first : List Sent) × (order : Order) × (tag : Tag) × (more ≡ first ++ (order, Ok (Plain (reply.Updated head) tag)) ∷ [])
    × (order.what ≡ what.Update commit) × (stale_count more ≡ 0)
EndsPush more (Ok (Late now)) = All WentWell more × (first : List Sent) × (order : Order) × (ending : Ending) × (id : List ℕ) × (last : ℕ) × (more ≡ first ++ (order, ending) ∷ [])
    × (order.what ≡ what.Update id) × IsRefusedBy ending (refusal.Stale last now) × (stale_count first ≡ 0)
EndsPush more (Err f) = GoesWell more × CausedBy IsPushFault more f × (is_of_order f ≡ false → All WentWell more) × (stale_count more ≡ 0)

-- wherever a library is asked to stand at a commit, that is the offer, over what was named before
abbrev pub OffersOnce : Cuts → Contents → Index → (user : List ℕ) → (moment : ℕ) → (parent : List ℕ) → List Sent → Type 0
OffersOnce cuts c index user moment parent more = (first : List Sent) (sent : Sent) (later : List Sent) (id : List ℕ) → more ≡ first ++ sent ∷ later → sent.0.what ≡ what.Update id
    → (had : List (Key × List ℕ)) × IsHad first had × ((objects : Objects) (base : Tree) → Over objects cuts c index base had
    → IsOffer objects cuts c index moment user (Some parent) id × IsUploadOf objects index first id)

-- each file that is new or changed is what the folder has at its path: it has the chunks and the size that were seen
abbrev pub StandAsSeen : Cuts → Contents → Index → Scan → Type 0
StandAsSeen cuts c index scan = (path : PathV) (blocks : List (List ℕ)) (size : ℕ) → fin.get scan.paths path ≡ Some (seen.File blocks size)
    → is_kept (fin.get index.entries path) (own_id blocks size) ≡ false → option_and_then (seen_of cuts) (at c path) ≡ Some (seen.File blocks size)

-- wherever a library is asked to stand at a commit, they are; the scan needn't have seen this folder
abbrev pub LooksTwice : Cuts → Contents → Index → Scan → List Sent → Type 0
LooksTwice cuts c index scan more =
    (first : List Sent) (sent : Sent) (later : List Sent) (id : List ℕ) → more ≡ first ++ sent ∷ later → sent.0.what ≡ what.Update id → StandAsSeen cuts c index scan

-- of which texts the commit is at which a library stands, over every folder: its own was sent, the others were asked about, and over any
-- objects that have them just those entries stand below its root that are offered, where what was seen is what stands in a folder
pub record HoldsOffer (library : Library) (user : List ℕ) (moment : ℕ) (parent : List ℕ) (index : Index) (scan : Scan) (more : List Sent) (id : List ℕ) : Type 0 where
  pub root : List ℕ
  pub text : List ℕ
  pub own : IsOwnCommit library root parent user moment id text
  pub texts : Objects
  pub are : AreTextsOf more texts
  pub commit : fin.get texts (commit_key id) ≡ Some text
  pub holds : IsSeenFolder index.entries scan.paths → (objects : Objects) → Keeps texts objects → (path : PathV)
      → entry_below objects path root ≡ option_map (offered_entry moment user (fin.get index.entries path)) (fin.get scan.paths path)

-- each block of a file that is new or changed was asked about or sent, and what the library told to lack was sent
pub record PutsChanged (index : Index) (scan : Scan) (more : List Sent) : Type 0 where
  pub blocks : (path : PathV) (names : List (List ℕ)) (size : ℕ) → fin.get scan.paths path ≡ Some (seen.File names size) → is_kept (fin.get index.entries path) (own_id names size) ≡ false
      → (id : List ℕ) → IsIn id names → is_in (keys_named more) (block_key id) ≡ true
  pub lacked : (key : Key) → is_in (keys_lacked more) key ≡ true → is_in (keys_put more) key ≡ true

-- where the library took it, all of that was put
abbrev pub HoldsSo : Library → (user : List ℕ) → (moment : ℕ) → (parent : List ℕ) → Index → Scan → List Sent → Result Pushed SyncFault → Type 0
HoldsSo library user moment parent index scan more (Ok (Installed commit head)) = HoldsOffer library user moment parent index scan more commit × PutsChanged index scan more
HoldsSo library user moment parent index scan more (Ok (Late now)) = ⊤
HoldsSo library user moment parent index scan more (Err f) = ⊤

pub record PushesSo (library : Library) (user : List ℕ) (moment : ℕ) (parent : List ℕ) (told : Option Contents) (cuts : Cuts) (index : Index) (scan : Scan) (more : List Sent)
    (result : Result Pushed SyncFault) : Type 0 where
  pub asks : All (IsSyncOrder library.lib library.secret) more
  pub uploads : All (λ (sent : Sent). is_upload sent.0.what ≡ true) more
  pub made : MadeSo library.lib user (λ other. other ≡ moment) (Some parent) None what.Version more
  pub puts : PutsLacked [] more
  pub rounds : GoesInRounds Uploads more
  pub ends : EndsPush more result
  pub holds : HoldsSo library user moment parent index scan more result
  pub offers : (c : Contents) → told ≡ Some c → IsFolder c → IsScan cuts c scan → OffersOnce cuts c index user moment parent more
  pub looks : (c : Contents) → told ≡ Some c → LooksTwice cuts c index scan more
  pub no_change : (c : Contents) → told ≡ Some c → IsFolder c → IsScan cuts c scan → IsWithinLimits c → IfErr result (λ f. is_change f ≡ false)

-- ---- what is asked about and sent

-- a key is of what is offered: of an object of the tree with this root, or of a file that is new or changed, of a block of one, or of the
-- commit of that root
abbrev pub IsOfOffer : Library → (user : List ℕ) → (moment : ℕ) → (parent : List ℕ) → Index → Scan → (root : List ℕ) → (made : Objects) → Key → Type 0
IsOfOffer library user moment parent index scan root made key = IsSome (fin.get made key) ⊎ (IsChangedBlock index.entries scan.paths key
    ⊎ ((id : List ℕ) × (text : List ℕ) × IsOwnCommit library root parent user moment id text × (key ≡ commit_key id)))

-- all that is asked about or sent is, and nothing is asked about twice, nor sent twice. The directories of the tree are among these objects,
-- each under its SHA-1, and nothing else is but files that are new or changed
pub record NamesOffered (library : Library) (user : List ℕ) (moment : ℕ) (parent : List ℕ) (index : Index) (scan : Scan) (more : List Sent) : Type 0 where
  pub root : List ℕ
  pub made : Objects
  pub tree : IsSeenFolder index.entries scan.paths → IsMadeOf moment user index.entries scan.paths root made
  pub each : (key : Key) → is_in (keys_named more) key ≡ true → IsOfOffer library user moment parent index scan root made key
  pub once : SendsOnce more

-- of all that a push sends, also where it ends early
abbrev pub NeedsSo : Library → (user : List ℕ) → (moment : ℕ) → (parent : List ℕ) → Index → Scan → (old new : List Sent) → Type 0
NeedsSo library user moment parent index scan old new =
    (more : List Sent) × (new ≡ old ++ more) × ((more ≡ []) ⊎ NamesOffered library user moment parent index scan more)

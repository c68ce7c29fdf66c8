-- What a fetch answers and leaves on the list of sends. Our own. Read IsFetch, GetsReached and Fetching first, then Stopped, then
-- FetchesCommit and FetchesTree.
use Rattle.std.specs.Prelude.{ℕ, ◌≡◌, ◌⊎◌, Bool, true, false, All, List, [], ◌∷◌, ◌++◌, length, None, Some, Result, Ok, Err, ⊤}
use Rattle.std.specs.FinMap as fin
use Rattle.std.specs.List.{Contains, flat_map}
use Rattle.ids.specs.Key.{Objects}
use Rattle.ids.specs.declared.key.Key.{Key}
use Rattle.commit_objects.specs.declared.commit.Commit.{Commit}
use Rattle.library_state.specs.declared.refusal.Refusal.TheVariants as refusal
use Rattle.library_state.specs.declared.reply.Reply.TheVariants as reply
use Rattle.library_state.specs.declared.tag.Tag.{Tag}
use Rattle.object_graph.specs.Objects.{AreEntriesOf, commit_at, commit_in, commit_key}
use Rattle.object_graph.specs.Reached.{ReachedFrom, own_keys}
use Rattle.object_graph.specs.Traversal.{start, walk_root}
use Rattle.object_graph.specs.Unchanged.{Keeps}
use Rattle.http_front.specs.declared.order.Order.{Order}
use Rattle.http_front.specs.declared.order.What.{What}
use Rattle.http_front.specs.declared.order.What.TheVariants as what
use Rattle.http_front.specs.declared.outcome.Outcome.TheVariants.{Plain}
use Rattle.http_client.specs.OrderOutcome.{is_commit}
use Rattle.tree_walk.specs.declared.fault.WalkFault.{WalkFault}
use Rattle.tree_walk.specs.declared.fault.WalkFault.TheVariants as walk
use Rattle.remote_calls.specs.Sends.{Ending, Sent}
use Rattle.sync_rules.specs.Named.{HasAll, HasGot, Sends, asked_by, got_in}
use Rattle.sync_rules.specs.Orders.{IsSyncOrder}
use Rattle.sync_rules.specs.Causes.{CausedBy, GoesWell, IsLast, IsWrongTree, WentWell, is_of_order, is_stale}
use Rattle.sync_rules.specs.declared.fault.SyncFault.{SyncFault}
use Rattle.sync_rules.specs.declared.fault.SyncFault.TheVariants as fault
use Rattle.tree_fetch.specs.Asking.{FailsSo, ReadsCommit, order_of}
use Rattle.tree_fetch.specs.declared.asker.Asker.{Asker}
use Rattle.tree_fetch.specs.declared.tree.FetchedTree.{FetchedTree}

-- ---- what is sent

-- a commit is asked for, or some files and directories
abbrev pub fetches : What → Bool
fetches (what.Get key) = is_commit key.kind
fetches (what.GetFs []) = false
fetches (what.GetFs (id ∷ ids)) = true
fetches _ = false

-- a send of a fetch: of the library, with the secret, and of few ids; an update alone may come too late
abbrev pub IsFetch : Asker → Sent → Type 0
IsFetch asker sent = IsSyncOrder asker.lib asker.secret sent × (fetches sent.0.what ≡ true) × (is_stale sent.1 ≡ false)

-- just one object is asked for
abbrev pub AsksOne : What → Type 0
AsksOne (what.GetFs ids) = length ids ≡ 1
AsksOne _ = ⊤

-- ---- what is asked for

-- a key is reached from these, over any objects that have what was got before
abbrev pub IsReached : (from : List Key) → (before : List Sent) → Key → Type 0
IsReached from before key = (objects : Objects) → HasGot objects before → ReachedFrom objects [] from key

-- each key that is asked for is; `before` was sent before these. So a fetch goes from the top down, and asks for nothing beside it
abbrev pub GetsReached : (from : List Key) → (before : List Sent) → List Sent → Type 0
GetsReached from before [] = ⊤
GetsReached from before (sent ∷ more) = All (IsReached from before) (asked_by sent.0.what) × GetsReached from (before ++ sent ∷ []) more

-- ---- success

-- each object that is held came with these bytes, whatever else came
abbrev pub AreCome : (held : Objects) → List Sent → Type 0
AreCome held more = (key : Key) (bytes : List ℕ) → fin.get held key ≡ Some bytes → Contains (flat_map got_in more) (key, Some bytes)

-- what was fetched since `before` for these keys: each send is one of a fetch, asks for what is reached and went well, and what is held
-- was had
pub record Fetching (asker : Asker) (from : List Key) (before now : List Sent) (held : Objects) : Type 0 where
  pub more : List Sent
  pub had : List (Key × List ℕ)
  pub sends : Sends before now more had
  pub asked : All (IsFetch asker) more
  pub reached : GetsReached from [] more
  pub went : All WentWell more
  pub kept : (objects : Objects) → HasAll objects had → Keeps held objects
  pub came : AreCome held more

-- ---- refusals

-- want of memory is told of one object alone: a list of more that is too large is halved
abbrev pub IsAlone : List Sent → SyncFault → Type 0
IsAlone more (fault.Refused refusal.NoMemory) = (order : Order) × (ending : Ending) × IsLast more order ending × AsksOne order.what
IsAlone more _ = ⊤

-- the fetch for these keys stopped, by what was sent alone: each send but the last went well, and the fault is of the last
pub record Stopped (asker : Asker) (from : List Key) (before now : List Sent) (f : SyncFault) : Type 0 where
  pub more : List Sent
  pub had : List (Key × List ℕ)
  pub sends : Sends before now more had
  pub asked : All (IsFetch asker) more
  pub reached : GetsReached from [] more
  pub went : GoesWell more
  pub cause : CausedBy (λ _. ⊥) more f
  pub of_order : is_of_order f ≡ true
  pub alone : IsAlone more f

-- ---- a commit

-- the one send gave the commit of this name
pub record GotCommit (asker : Asker) (before now : List Sent) (id : List ℕ) (commit : Commit) : Type 0 where
  pub bytes : List ℕ
  pub tag : Tag
  pub is : now ≡ before ++ (order_of asker (what.Get (commit_key id)), Ok (Plain (reply.Got bytes) tag)) ∷ []
  pub spells : commit_in id (Some bytes) ≡ Ok commit

-- the one order for it failed, or gave bytes that are no commit of this name
abbrev pub CommitFails : Asker → List Sent → List Sent → (id : List ℕ) → SyncFault → Type 0
CommitFails asker before now id f = FailsSo before now (order_of asker (what.Get (commit_key id))) f
    ⊎ ((bytes : List ℕ) × (tag : Tag) × (now ≡ before ++ (order_of asker (what.Get (commit_key id)), Ok (Plain (reply.Got bytes) tag)) ∷ []) × ReadsCommit id bytes (Err f))

-- over any objects that have what was got, it is the commit of that id
pub record IsFetchedCommit (asker : Asker) (before now : List Sent) (id : List ℕ) (commit : Commit) : Type 0 where
  pub more : List Sent
  pub had : List (Key × List ℕ)
  pub sends : Sends before now more had
  pub asked : All (IsFetch asker) more
  pub reached : GetsReached (commit_key id ∷ []) [] more
  pub went : All WentWell more
  pub stored : (objects : Objects) → HasGot objects more → commit_at objects id ≡ Ok commit

abbrev pub FetchesCommit : Asker → List Sent → List Sent → (id : List ℕ) → Result Commit SyncFault → Type 0
FetchesCommit asker before now id (Ok commit) = IsFetchedCommit asker before now id commit
FetchesCommit asker before now id (Err f) = Stopped asker (commit_key id ∷ []) before now f

-- ---- a tree

-- nothing is wrong with the tree that the root has among the objects that are held, each of which came, and these are its entries; so it is
-- over any objects that have what was got, what is held among them
pub record IsFetchedTree (asker : Asker) (before now : List Sent) (root : List ℕ) (tree : FetchedTree) : Type 0 where
  pub more : List Sent
  pub had : List (Key × List ℕ)
  pub sends : Sends before now more had
  pub asked : All (IsFetch asker) more
  pub reached : GetsReached (own_keys root) [] more
  pub went : All WentWell more
  pub held : (walk_root false tree.objects root start).fault ≡ None
  pub own : AreEntriesOf tree.objects root tree.entries
  pub came : AreCome tree.objects more
  pub whole : (objects : Objects) → HasGot objects more → (walk_root false objects root start).fault ≡ None
  pub entries : (objects : Objects) → HasGot objects more → AreEntriesOf objects root tree.entries
  pub kept : (objects : Objects) → HasGot objects more → Keeps tree.objects objects

-- over any objects that have what was got, this is the first fault of its traversal that looks at no block
pub record FindsWrongTree (asker : Asker) (before now : List Sent) (root : List ℕ) (why : WalkFault) : Type 0 where
  pub more : List Sent
  pub had : List (Key × List ℕ)
  pub sends : Sends before now more had
  pub asked : All (IsFetch asker) more
  pub reached : GetsReached (own_keys root) [] more
  pub went : All WentWell more
  pub wrong : (objects : Objects) → HasGot objects more → IsWrongTree objects root why

abbrev pub FetchesTree : Asker → List Sent → List Sent → (root : List ℕ) → Result FetchedTree SyncFault → Type 0
FetchesTree asker before now root (Ok tree) = IsFetchedTree asker before now root tree
FetchesTree asker before now root (Err (fault.BadTree (walk.WrongSize id))) = ⊥
FetchesTree asker before now root (Err (fault.BadTree (walk.Store why))) = ⊥
FetchesTree asker before now root (Err (fault.BadTree why)) = FindsWrongTree asker before now root why
FetchesTree asker before now root (Err f) = Stopped asker (own_keys root) before now f

-- What one order of a fetch is, and what it comes to. Our own. Read order_of first, then AsksSo, GetsObject and ReadsCommit.
use Rattle.std.specs.Prelude.{ℕ, ◌≡◌, ◌<◌, Bool, true, false, List, [], ◌∷◌, ◌++◌, length, Option, None, Some, Result, Ok, Err, ⊤}
use Rattle.ids.specs.declared.key.Key.{Key}
use Rattle.commit_objects.specs.declared.commit.Commit.{Commit}
use Rattle.library_state.specs.declared.refusal.Refusal.{Refusal}
use Rattle.library_state.specs.declared.refusal.Refusal.TheVariants as refusal
use Rattle.library_state.specs.declared.reply.Reply.{Reply}
use Rattle.library_state.specs.declared.reply.Reply.TheVariants as reply
use Rattle.library_state.specs.declared.tag.Tag.{Tag}
use Rattle.object_graph.specs.Objects.{commit_in, commit_key}
use Rattle.object_graph.specs.declared.fault.TreeFault.TheVariants as tree
use Rattle.http_front.specs.declared.order.Order.{Order}
use Rattle.http_front.specs.declared.order.What.{What}
use Rattle.http_front.specs.declared.order.What.TheVariants as what
use Rattle.http_front.specs.declared.outcome.Outcome.{Outcome}
use Rattle.http_front.specs.declared.outcome.Outcome.TheVariants.{Plain, Packed, Refused}
use Rattle.http_front.specs.declared.row.Row.{Row}
use Rattle.http_client.specs.OrderOutcome.{CanHave, can_refuse}
use Rattle.tree_walk.specs.declared.fault.WalkFault.TheVariants as walk
use Rattle.remote_calls.specs.Sends.{Ending, Sent}
use Rattle.remote_calls.specs.declared.error.RemoteFault.{RemoteFault}
use Rattle.remote_calls.specs.declared.error.RemoteFault.TheVariants as remote
use Rattle.sync_rules.specs.Causes.{IsRefusedBy}
use Rattle.sync_rules.specs.declared.fault.SyncFault.{SyncFault}
use Rattle.sync_rules.specs.declared.fault.SyncFault.TheVariants as fault
use Rattle.tree_fetch.specs.declared.asker.Asker.{Asker}

-- ---- an order

-- what is asked of the library, with the secret
abbrev pub order_of : Asker → What → Order
order_of asker what = record { lib = Some asker.lib; secret = Some asker.secret; what = what }

-- why a sync ends with an order without an outcome
abbrev pub sync_fault : RemoteFault → SyncFault
sync_fault remote.NoMemory = fault.NoMemory
sync_fault other = fault.Remote other

-- the list grew by the order, with what it came to; where memory was wanting for it, it stayed
abbrev pub AsksSo : List Sent → List Sent → Order → Result Outcome SyncFault → Type 0
AsksSo old new order (Ok outcome) = (new ≡ old ++ (order, Ok outcome) ∷ []) × CanHave order.what outcome
AsksSo old new order (Err (fault.Remote f)) = new ≡ old ++ (order, Err f) ∷ []
AsksSo old new order (Err fault.NoMemory) = new ≡ old
AsksSo old new order (Err _) = ⊥

-- the same of what a remote answers
abbrev pub ended_as : Ending → Result Outcome SyncFault
ended_as (Ok outcome) = Ok outcome
ended_as (Err f) = Err (sync_fault f)

-- ---- what an outcome tells

-- a reply that gives an object, or refuses to
abbrev pub RepliesBytes : Reply → Type 0
RepliesBytes (reply.Got bytes) = ⊤
RepliesBytes (reply.Refused why) = ⊤
RepliesBytes _ = ⊥

abbrev pub Refuses : Reply → Type 0
Refuses (reply.Refused why) = ⊤
Refuses _ = ⊥

abbrev pub GivesBytes : Outcome → Type 0
GivesBytes (Plain told tag) = RepliesBytes told
GivesBytes (Refused why) = ⊤
GivesBytes _ = ⊥

-- an outcome that gives rows, or refuses to
abbrev pub GivesRows : Outcome → Type 0
GivesRows (Packed rows) = ⊤
GivesRows (Plain told tag) = Refuses told
GivesRows (Refused why) = ⊤
GivesRows _ = ⊥

abbrev pub TellsIn : Reply → Result (List ℕ) Refusal → Type 0
TellsIn told (Ok bytes) = told ≡ reply.Got bytes
TellsIn told (Err why) = told ≡ reply.Refused why

abbrev pub TellsBytes : Outcome → Result (List ℕ) Refusal → Type 0
TellsBytes outcome (Ok bytes) = (tag : Tag) × (outcome ≡ Plain (reply.Got bytes) tag)
TellsBytes outcome (Err why) = IsRefusedBy (Ok outcome) why

abbrev pub TellsRows : Outcome → Result (List Row) Refusal → Type 0
TellsRows outcome (Ok rows) = outcome ≡ Packed rows
TellsRows outcome (Err why) = IsRefusedBy (Ok outcome) why

-- ---- an order that is refused, or has no outcome

-- the order came last, and was refused so, as it can be
abbrev pub IsRefused : List Sent → List Sent → Order → Refusal → Type 0
IsRefused old new order why = (outcome : Outcome) × (new ≡ old ++ (order, Ok outcome) ∷ []) × IsRefusedBy (Ok outcome) why × (can_refuse order.what why ≡ true)

abbrev pub FailsSo : List Sent → List Sent → Order → SyncFault → Type 0
FailsSo old new order (fault.Remote f) = new ≡ old ++ (order, Err f) ∷ []
FailsSo old new order (fault.Refused why) = IsRefused old new order why
FailsSo old new order fault.NoMemory = new ≡ old
FailsSo old new order _ = ⊥

-- ---- one object

-- the bytes of an object are those that the one order gave
abbrev pub GetsObject : Asker → List Sent → List Sent → Key → Result (List ℕ) SyncFault → Type 0
GetsObject asker old new key (Ok bytes) = (tag : Tag) × (new ≡ old ++ (order_of asker (what.Get key), Ok (Plain (reply.Got bytes) tag)) ∷ [])
GetsObject asker old new key (Err f) = FailsSo old new (order_of asker (what.Get key)) f

-- bytes are read as a commit of this name, or as none
abbrev pub ReadsCommit : List ℕ → List ℕ → Result Commit SyncFault → Type 0
ReadsCommit id bytes (Ok commit) = commit_in id (Some bytes) ≡ Ok commit
ReadsCommit id bytes (Err (fault.BadTree why)) = (why ≡ walk.Unreadable (commit_key id)) × (commit_in id (Some bytes) ≡ Err (tree.Unreadable (commit_key id)))
ReadsCommit id bytes (Err fault.NoMemory) = ⊤
ReadsCommit id bytes (Err _) = ⊥

-- ---- one list of files and directories

-- want of memory is told of one id alone
abbrev pub IsOfOne : List (List ℕ) → SyncFault → Type 0
IsOfOne ids (fault.Refused refusal.NoMemory) = length ids ≡ 1
IsOfOne ids _ = ⊤

-- the rows of these ids; or none, where more than one was asked for and the answer was want of memory
abbrev pub GetsRows : Asker → List Sent → List Sent → List (List ℕ) → Result (Option (List Row)) SyncFault → Type 0
GetsRows asker old new ids (Ok (Some rows)) = (new ≡ old ++ (order_of asker (what.GetFs ids), Ok (Packed rows)) ∷ []) × CanHave (what.GetFs ids) (Packed rows)
GetsRows asker old new ids (Ok None) = (1 < length ids) × IsRefused old new (order_of asker (what.GetFs ids)) refusal.NoMemory
GetsRows asker old new ids (Err f) = FailsSo old new (order_of asker (what.GetFs ids)) f × IsOfOne ids f

-- a list of many that is too large is to be halved; what else is refused ends the sync
abbrev pub refused_of : (many : Bool) → Refusal → Result (Option (List Row)) SyncFault
refused_of false why = Err (fault.Refused why)
refused_of true refusal.NoMemory = Ok None
refused_of true why = Err (fault.Refused why)

-- The commit of an offer: how it is put, and the library asked to stand at it. Our own. Read offered_commit, then StandsSo.
use Rattle.std.specs.Prelude.{ℕ, ◌≡◌, ◌⊎◌, Bool, true, false, List, [], ◌∷◌, ◌++◌, None, Some, Result, Ok, Err}
use Rattle.commit_objects.specs.Commit.{commit_of}
use Rattle.commit_objects.specs.Made.{made}
use Rattle.commit_objects.specs.Spelling.{text_of}
use Rattle.commit_objects.specs.declared.commit.Commit.{Commit}
use Rattle.library_state.specs.declared.refusal.Refusal.{Refusal}
use Rattle.library_state.specs.declared.refusal.Refusal.TheVariants as refusal
use Rattle.library_state.specs.declared.reply.Reply.{Reply}
use Rattle.library_state.specs.declared.reply.Reply.TheVariants as reply
use Rattle.object_graph.specs.Objects.{commit_key}
use Rattle.http_front.specs.declared.order.What.{What}
use Rattle.http_front.specs.declared.order.What.TheVariants as what
use Rattle.remote_calls.specs.Sends.{Ending, Sent}
use Rattle.sync_rules.specs.Offer.{offer_words}
use Rattle.sync_rules.specs.declared.fault.SyncFault.{SyncFault}
use Rattle.sync_rules.specs.declared.fault.SyncFault.TheVariants as fault
use Rattle.tree_push.specs.Asking.{EndsBy, Replies, order_for}
use Rattle.tree_push.specs.declared.asking.Library.{Library}
use Rattle.tree_push.specs.declared.standing.Pushed.{Pushed}
use Rattle.tree_push.specs.declared.standing.Pushed.TheVariants.{Installed, Late}

-- the commit that is made of a root, on this parent, by this user at this moment
abbrev pub offered_commit : Library → (root parent user : List ℕ) → (moment : ℕ) → Commit
offered_commit library root parent user moment = made library.lib root (Some parent) None user offer_words moment false

-- its name and its text, which is read as it
pub record IsOwnCommit (library : Library) (root parent user : List ℕ) (moment : ℕ) (id text : List ℕ) : Type 0 where
  pub named : id ≡ (offered_commit library root parent user moment).id
  pub spelled : text ≡ text_of (offered_commit library root parent user moment)
  pub reads : commit_of text ≡ Ok (offered_commit library root parent user moment)

-- an order that came to nothing: memory was wanting, and it isn't listed; or its ending tells the fault
abbrev pub Fails : Library → What → List Sent → List Sent → SyncFault → Type 0
Fails library asked old new f = ((f ≡ fault.NoMemory) × (new ≡ old)) ⊎ ((ending : Ending) × (new ≡ old ++ (order_for library asked, ending) ∷ []) × EndsBy asked ending f)

-- one order, which was replied to so
abbrev pub Asked : Library → What → (Reply → Type 0) → List Sent → List Sent → Type 0
Asked library asked wanted old new = (ending : Ending) × (r : Reply) × (new ≡ old ++ (order_for library asked, ending) ∷ []) × Replies ending r × wanted r

abbrev pub IsStored : Reply → Type 0
IsStored (reply.Stored is_new) = Unit {0}
IsStored _ = ⊥

-- the commit was put
abbrev pub PutsCommit : {T : Type 0} → Library → (id text : List ℕ) → List Sent → List Sent → Result T SyncFault → Type 0
PutsCommit library id text old new (Ok done) = Asked library (what.Put (commit_key id) text) IsStored old new
PutsCommit library id text old new (Err f) = Fails library (what.Put (commit_key id) text) old new f

-- the library stands at it, or at a merge with it; or it came too late
abbrev pub TellsPushed : (id : List ℕ) → Pushed → Reply → Type 0
TellsPushed id (Installed commit head) r = (commit ≡ id) × (r ≡ reply.Updated head)
TellsPushed id (Late now) r = (last : ℕ) × (r ≡ reply.Refused (refusal.Stale last now))

-- an update that came too late is no fault
abbrev pub is_late : SyncFault → Bool
is_late (fault.Refused (refusal.Stale last now)) = true
is_late _ = false

abbrev pub UpdatesSo : Library → (id : List ℕ) → List Sent → List Sent → Result Pushed SyncFault → Type 0
UpdatesSo library id old new (Ok pushed) = Asked library (what.Update id) (TellsPushed id pushed) old new
UpdatesSo library id old new (Err f) = Fails library (what.Update id) old new f × (is_late f ≡ false)

-- what is replied to an update
abbrev pub IsUpdateReply : Reply → Type 0
IsUpdateReply (reply.Updated head) = Unit {0}
IsUpdateReply (reply.Refused why) = Unit {0}
IsUpdateReply _ = ⊥

abbrev pub RefusesSo : Refusal → Result Pushed SyncFault → Type 0
RefusesSo (refusal.Stale last now) result = result ≡ Ok (Late now)
RefusesSo why result = result ≡ Err (fault.Refused why)

abbrev pub TakesSo : (id : List ℕ) → Reply → Result Pushed SyncFault → Type 0
TakesSo id (reply.Updated head) result = result ≡ Ok (Installed id head)
TakesSo id (reply.Refused why) result = RefusesSo why result
TakesSo id _ result = ⊥

-- both, one behind the other
abbrev pub PutsThenUpdates : Library → (id text : List ℕ) → List Sent → List Sent → Result Pushed SyncFault → Type 0
PutsThenUpdates library id text old new (Ok pushed) = (mid : List Sent) × PutsCommit {T = Unit {0}} library id text old mid (Ok tt) × UpdatesSo library id mid new (Ok pushed)
PutsThenUpdates library id text old new (Err f) = PutsCommit {T = Unit {0}} library id text old new (Err f)
    ⊎ ((mid : List Sent) × PutsCommit {T = Unit {0}} library id text old mid (Ok tt) × UpdatesSo library id mid new (Err f))

-- of a commit of the offer, or memory was wanting before
abbrev pub StandsSo : Library → (root parent user : List ℕ) → (moment : ℕ) → List Sent → List Sent → Result Pushed SyncFault → Type 0
StandsSo library root parent user moment old new result = ((result ≡ Err fault.NoMemory) × (new ≡ old))
    ⊎ ((id : List ℕ) × (text : List ℕ) × IsOwnCommit library root parent user moment id text × PutsThenUpdates library id text old new result)

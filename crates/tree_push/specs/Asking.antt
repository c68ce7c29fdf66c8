-- What is sent while a folder is pushed, and what comes of it. Our own. Read IsUploadWhat, IsSend and Went first, then AsksIds.
use Rattle.std.specs.Prelude.{ℕ, ◌≡◌, ◌≤◌, ◌⊎◌, Bool, true, false, All, List, [], ◌∷◌, ◌++◌, length, Some, Result, Ok, Err, ⊤}
use Rattle.std.specs.List.{AllByRecursion}
use Rattle.sha1.specs.Sha1.{sha1}
use Rattle.ids.specs.declared.key.Key.{Key}
use Rattle.ids.specs.declared.key.Kind.{Kind}
use Rattle.ids.specs.declared.key.Kind.TheVariants as kind
use Rattle.library_state.specs.declared.reply.Reply.{Reply}
use Rattle.library_state.specs.declared.reply.Reply.TheVariants as reply
use Rattle.http_client.specs.OrderOutcome.{CanAnswer, are_among}
use Rattle.http_front.specs.declared.order.Order.{Order}
use Rattle.http_front.specs.declared.order.What.{What}
use Rattle.http_front.specs.declared.order.What.TheVariants as what
use Rattle.http_front.specs.declared.outcome.Outcome.{Outcome}
use Rattle.http_front.specs.declared.outcome.Outcome.TheVariants as outcome
use Rattle.remote_calls.specs.Sends.{Ending, Sent}
use Rattle.remote_calls.specs.declared.error.RemoteFault.{RemoteFault}
use Rattle.remote_calls.specs.declared.error.RemoteFault.TheVariants as remote
use Rattle.sync_rules.specs.Causes.{ends_sync}
use Rattle.sync_rules.specs.Named.{is_block, put_by}
use Rattle.sync_rules.specs.Orders.{IsRowNamed, most_asked}
pub use Rattle.sync_rules.specs.Orders.{IsSmall, most_bytes}
use Rattle.sync_rules.specs.declared.fault.SyncFault.{SyncFault}
use Rattle.sync_rules.specs.declared.fault.SyncFault.TheVariants as fault
use Rattle.tree_push.specs.Wanted.{IsIn}
use Rattle.tree_push.specs.declared.asking.Library.{Library}

-- ---- one order

-- the order that asks the library for it
abbrev pub order_for : Library → What → Order
order_for library asked = record { lib = Some library.lib; secret = Some library.secret; what = asked }

-- a block or a commit is put alone
abbrev pub is_put_kind : Kind → Bool
is_put_kind kind.Fs = false
is_put_kind _ = true

-- what an order of an upload asks: what is lacking, that a block or a commit, or files and directories be stored, that the library
-- stand at a commit
abbrev pub is_asked : What → Bool
is_asked (what.Missing kind.Fs ids) = true
is_asked (what.Missing kind.Block ids) = true
is_asked (what.Put key bytes) = is_put_kind key.kind
is_asked (what.PutFs rows) = true
is_asked (what.Update commit) = true
is_asked _ = false

-- an outcome of a call
abbrev pub IsReply : Outcome → Type 0
IsReply (outcome.Plain told tag) = ⊤
IsReply (outcome.Refused why) = ⊤
IsReply _ = ⊥

-- it tells this reply; a refusal is one, however it is told
abbrev pub Tells : Outcome → Reply → Type 0
Tells (outcome.Plain told tag) r = r ≡ told
Tells (outcome.Refused why) r = r ≡ reply.Refused why
Tells _ r = ⊥

abbrev pub Replies : Ending → Reply → Type 0
Replies (Ok told) r = Tells told r
Replies (Err why) r = ⊥

abbrev pub remote_fault : RemoteFault → SyncFault
remote_fault remote.NoMemory = fault.NoMemory
remote_fault other = fault.Remote other

-- one send more, with its reply, which the order can have; or its fault; or memory was wanting, and nothing is listed
abbrev pub AsksSo : Library → What → List Sent → List Sent → Result Reply SyncFault → Type 0
AsksSo library asked old new (Ok r) = (ending : Ending) × (new ≡ old ++ (order_for library asked, ending) ∷ []) × Replies ending r × CanAnswer asked r
AsksSo library asked old new (Err f) = ((f ≡ fault.NoMemory) × (new ≡ old))
    ⊎ ((why : RemoteFault) × (new ≡ old ++ (order_for library asked, Err why) ∷ []) × (f ≡ fault.Remote why))

-- ---- orders of an upload, one after another

-- it can be asked which ids of the kind name nothing
abbrev pub is_listed : Kind → Bool
is_listed kind.Commit = false
is_listed _ = true

-- what is uploaded before a library is asked to stand at it: lists of ids that aren't too long, and blocks, files and directories under
-- their names
abbrev pub IsUploadWhat : What → Type 0
IsUploadWhat (what.Missing kind ids) = (is_listed kind ≡ true) × (length ids ≤ most_asked)
IsUploadWhat (what.Put key bytes) = (is_block key.kind ≡ true) × (sha1 bytes ≡ key.id)
IsUploadWhat (what.PutFs rows) = All IsRowNamed rows × IsSmall rows
IsUploadWhat _ = ⊥

-- a block alone, or files and directories together
abbrev pub is_put : What → Bool
is_put (what.Put key bytes) = is_block key.kind
is_put (what.PutFs rows) = true
is_put _ = false

-- what an order may be: blocks, or files and directories, are put, each of which may be
abbrev pub PutsAmong : (may : Key → Bool) → What → Type 0
PutsAmong may asked = (is_put asked ≡ true) × AllByRecursion (λ (key : Key). may key ≡ true) (put_by asked)

-- or it is asked which of some ids name nothing, each of which is one of these
abbrev pub AsksAmong : Kind → (ids : List (List ℕ)) → What → Type 0
AsksAmong kind ids (what.Missing asked others) = (asked ≡ kind) × AllByRecursion (λ (id : List ℕ). IsIn id ids) others
AsksAmong kind ids _ = ⊥

abbrev pub is_refused : Reply → Bool
is_refused (reply.Refused why) = true
is_refused _ = false

-- a send that went well
pub record IsSend (library : Library) (may : What → Type 0) (sent : Sent) : Type 0 where
  pub order : sent.0 ≡ order_for library sent.0.what
  pub uploads : IsUploadWhat sent.0.what
  pub among : may sent.0.what
  pub told : Reply
  pub replied : Replies sent.1 told
  pub well : is_refused told ≡ false

-- a fault that the ending of an order tells: no refusal by which a sync goes on
abbrev pub EndsBy : What → Ending → SyncFault → Type 0
EndsBy asked ending (fault.Remote why) = ending ≡ Err why
EndsBy asked ending (fault.Refused why) = Replies ending (reply.Refused why) × (ends_sync asked why ≡ true)
EndsBy asked ending _ = ⊥

-- the send that told it
pub record IsEnd (library : Library) (may : What → Type 0) (f : SyncFault) (sent : Sent) : Type 0 where
  pub order : sent.0 ≡ order_for library sent.0.what
  pub uploads : IsUploadWhat sent.0.what
  pub among : may sent.0.what
  pub ends : EndsBy sent.0.what sent.1 f

-- a fault that no send tells: of the folder, of what stands in it, and want of memory
abbrev pub is_own : SyncFault → Bool
is_own fault.Folder = true
is_own (fault.Changed path) = true
is_own fault.NoMemory = true
is_own _ = false

-- each send went well, until one told the fault, or it came without one
abbrev pub Stops : Library → (may : What → Type 0) → SyncFault → List Sent → Type 0
Stops library may f [] = is_own f ≡ true
Stops library may f (sent ∷ more) = (IsSend library may sent × Stops library may f more) ⊎ (IsEnd library may f sent × (more ≡ []))

-- sends that went well and are such as they may be, and of which this holds
pub record Ran (library : Library) (may : What → Type 0) (wanted : List Sent → Type 0) (old new : List Sent) : Type 0 where
  pub more : List Sent
  pub grown : new ≡ old ++ more
  pub went : AllByRecursion (IsSend library may) more
  pub are : wanted more

-- sends until a fault
pub record Stopped (library : Library) (may : What → Type 0) (f : SyncFault) (old new : List Sent) : Type 0 where
  pub more : List Sent
  pub grown : new ≡ old ++ more
  pub stops : Stops library may f more

abbrev pub Went : {T : Type 0} → Library → (may : What → Type 0) → (List Sent → Type 0) → List Sent → List Sent → Result T SyncFault → Type 0
Went library may wanted old new (Ok x) = Ran library may wanted old new
Went library may wanted old new (Err f) = Stopped library may f old new

-- the only fault is want of memory
abbrev pub IsFree : {T : Type 0} → Result T SyncFault → Type 0
IsFree (Ok x) = ⊤
IsFree (Err f) = f ≡ fault.NoMemory

-- a fault of an order, or that memory was wanting for it
abbrev pub IsOrderFault : SyncFault → Type 0
IsOrderFault (fault.Remote why) = ⊤
IsOrderFault (fault.Refused why) = ⊤
IsOrderFault fault.NoMemory = ⊤
IsOrderFault _ = ⊥

-- ---- what is lacking

abbrev pub key_of : Kind → List ℕ → Key
key_of kind id = record { kind = kind; id = id }

-- what is replied where it is asked which ids name nothing: the ids, or a refusal
abbrev pub IsAbsentReply : Reply → Type 0
IsAbsentReply (reply.Absent ids) = ⊤
IsAbsentReply (reply.Refused why) = ⊤
IsAbsentReply _ = ⊥

-- it was asked which of these ids name nothing
pub record AsksList (library : Library) (kind : Kind) (ids : List (List ℕ)) (sent : Sent) : Type 0 where
  pub asked : sent.0 ≡ order_for library (what.Missing kind ids)
  pub absent : List (List ℕ)
  pub told : Replies sent.1 (reply.Absent absent)
  pub among : are_among ids absent ≡ true

-- the same in lists, one after another
abbrev pub AsksIds : Library → Kind → List (List ℕ) → List Sent → Type 0
AsksIds library kind ids [] = ids ≡ []
AsksIds library kind ids (sent ∷ more) =
    (first : List (List ℕ)) × (rest : List (List ℕ)) × (ids ≡ first ++ rest) × AsksList library kind first sent × AsksIds library kind rest more

-- ---- what is put

abbrev pub ArePuts : List Sent → Type 0
ArePuts = AllByRecursion (λ sent. is_put sent.0.what ≡ true)

-- what is replied where something is put
abbrev pub IsStoredReply : Reply → Type 0
IsStoredReply (reply.Stored new) = ⊤
IsStoredReply (reply.Refused why) = ⊤
IsStoredReply _ = ⊥

abbrev pub StoresSo : Reply → Result ⊤ SyncFault → Type 0
StoresSo (reply.Stored is_new) result = result ≡ Ok tt
StoresSo (reply.Refused why) result = result ≡ Err (fault.Refused why)
StoresSo _ result = ⊥

-- What is sent for the blocks of files, and what comes of it. Our own. Read block_order and IsGot first, then AreGot and Stops.
use Rattle.std.specs.Prelude.{ℕ, ◌≡◌, ◌≢◌, ◌⊎◌, Bool, true, false, List, [], ◌∷◌, ◌++◌, Option, None, Some, Result, Ok, Err, ⊤}
use Rattle.std.specs.List.{filter_map, flat_map}
use Rattle.sha1.specs.Sha1.{sha1}
use Rattle.ids.specs.declared.key.Key.{Key}
use Rattle.folder_side.specs.declared.error.FolderFault.{FolderFault}
use Rattle.folder_side.specs.declared.error.FolderFault.TheVariants as folder
use Rattle.http_front.specs.declared.order.Order.{Order}
use Rattle.http_front.specs.declared.order.What.TheVariants as what
use Rattle.http_front.specs.declared.outcome.Outcome.{Outcome}
use Rattle.http_front.specs.declared.outcome.Outcome.TheVariants.{Plain, Refused}
use Rattle.library_state.specs.declared.reply.Reply.TheVariants as reply
use Rattle.library_state.specs.declared.tag.Tag.{Tag}
use Rattle.object_graph.specs.Objects.{block_key}
use Rattle.remote_calls.specs.Sends.{Ending, Sent}
use Rattle.remote_calls.specs.declared.error.RemoteFault.{RemoteFault}
use Rattle.remote_calls.specs.declared.error.RemoteFault.TheVariants as remote
use Rattle.sync_rules.specs.Named.{Named, names_in}
use Rattle.sync_rules.specs.Causes.{IsRefusedBy, ends_sync}
use Rattle.sync_rules.specs.declared.fault.SyncFault.{SyncFault}
use Rattle.sync_rules.specs.declared.fault.SyncFault.TheVariants as fault
use Rattle.tree_walk.specs.declared.fault.WalkFault.TheVariants as walk
use Rattle.tree_checkout.specs.declared.block_gets.Source.{Source}

-- ---- faults of what is called

abbrev pub folder_fault : FolderFault → SyncFault
folder_fault folder.Folder = fault.Folder
folder_fault folder.NoMemory = fault.NoMemory

abbrev pub remote_fault : RemoteFault → SyncFault
remote_fault remote.NoMemory = fault.NoMemory
remote_fault other = fault.Remote other

-- ---- one block

-- the order that asks for a block
abbrev pub block_order : Source → List ℕ → Order
block_order source id = record { lib = Some source.lib; secret = Some source.secret; what = what.Get (block_key id) }

-- bytes came, and this is their name
abbrev pub ComesNamed : List ℕ → Ending → Type 0
ComesNamed id (Ok (Plain (reply.Got bytes) tag)) = sha1 bytes ≡ id
ComesNamed id _ = ⊥

-- a block was asked for, and its bytes came
pub record IsGot (source : Source) (id : List ℕ) (sent : Sent) : Type 0 where
  pub asked : sent.0 ≡ block_order source id
  pub comes : ComesNamed id sent.1

-- the bytes that came
abbrev pub bytes_in : Ending → List ℕ
bytes_in (Ok (Plain (reply.Got bytes) tag)) = bytes
bytes_in _ = []

-- bytes that are handed on have the name that was asked for; else it is told which one they have
abbrev pub ChecksSo : (id bytes : List ℕ) → Result (List ℕ) SyncFault → Type 0
ChecksSo id bytes (Ok given) = (given ≡ bytes) × (sha1 bytes ≡ id)
ChecksSo id bytes (Err (fault.Damaged want got)) = (want ≡ id) × (got ≡ sha1 bytes) × (got ≢ id)
ChecksSo id bytes (Err _) = ⊥

-- what an outcome comes to
abbrev pub TellsSo : List ℕ → Outcome → Result (List ℕ) SyncFault → Type 0
TellsSo id (Plain (reply.Got bytes) tag) result = ChecksSo id bytes result
TellsSo id (Plain (reply.Refused why) tag) result = result ≡ Err (fault.Refused why)
TellsSo id (Refused why) result = result ≡ Err (fault.Refused why)
TellsSo id _ result = ⊥

-- ---- blocks, one after another

-- these blocks were got, in their order, each by one send
abbrev pub AreGot : Source → List (List ℕ) → List Sent → Type 0
AreGot source [] [] = ⊤
AreGot source [] (sent ∷ more) = ⊥
AreGot source (id ∷ ids) [] = ⊥
AreGot source (id ∷ ids) (sent ∷ more) = IsGot source id sent × AreGot source ids more

-- their bytes, joined
abbrev pub joined_in : List Sent → List ℕ
joined_in [] = []
joined_in (sent ∷ more) = bytes_in sent.1 ++ joined_in more

-- a fault that no send tells: of the folder, of what stands in it, of a file's size, and want of memory
abbrev pub is_quiet : SyncFault → Bool
is_quiet fault.Folder = true
is_quiet (fault.BadTree (walk.WrongSize id)) = true
is_quiet (fault.Changed path) = true
is_quiet fault.NoMemory = true
is_quiet _ = false

-- a fault that the send of a block tells
abbrev pub IsToldBy : Source → (id : List ℕ) → Sent → SyncFault → Type 0
IsToldBy source id sent (fault.Remote why) = sent ≡ (block_order source id, Err why)
IsToldBy source id sent (fault.Refused why) = (sent.0 ≡ block_order source id) × IsRefusedBy sent.1 why × (ends_sync (what.Get (block_key id)) why ≡ true)
IsToldBy source id sent (fault.Damaged want got) =
    (want ≡ id) × (got ≢ id) × (bytes : List ℕ) × (tag : Tag) × (sent ≡ (block_order source id, Ok (Plain (reply.Got bytes) tag))) × (got ≡ sha1 bytes)
IsToldBy source id sent _ = ⊥

-- a front of these blocks was got, in their order, each by one send; and then the next send told the fault, or it came without one
abbrev pub Stops : Source → List Sent → List (List ℕ) → SyncFault → Type 0
Stops source [] ids f = is_quiet f ≡ true
Stops source (sent ∷ more) [] f = ⊥
Stops source (sent ∷ more) (id ∷ ids) f = (IsGot source id sent × Stops source more ids f) ⊎ (IsToldBy source id sent f × (more ≡ []))

-- a front of these blocks was got, and nothing else was sent
pub record GotFront (source : Source) (ids : List (List ℕ)) (more : List Sent) : Type 0 where
  pub front : List (List ℕ)
  pub others : List (List ℕ)
  pub split : ids ≡ front ++ others
  pub came : AreGot source front more

-- one block is got by one send
pub record GetsOne (source : Source) (id bytes : List ℕ) (old new : List Sent) : Type 0 where
  pub sent : Sent
  pub grown : new ≡ old ++ sent ∷ []
  pub got : IsGot source id sent
  pub gives : bytes ≡ bytes_in sent.1

-- or its send told the fault, or memory was wanting and nothing was sent
abbrev pub GetsSo : Source → List ℕ → List Sent → List Sent → Result (List ℕ) SyncFault → Type 0
GetsSo source id old new (Ok bytes) = GetsOne source id bytes old new
GetsSo source id old new (Err f) = ((f ≡ fault.NoMemory) × (new ≡ old)) ⊎ ((sent : Sent) × (new ≡ old ++ sent ∷ []) × IsToldBy source id sent f)

-- ---- what a sync had for them

-- what is named with its bytes
abbrev pub with_bytes : Named → Option (Key × List ℕ)
with_bytes (key, None) = None
with_bytes (key, Some bytes) = Some (key, bytes)

-- the bytes that came under their names
abbrev pub had_of : List Sent → List (Key × List ℕ)
had_of more = filter_map with_bytes (flat_map names_in more)

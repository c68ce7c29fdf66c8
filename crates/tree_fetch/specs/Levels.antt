-- For private clauses: which ids were met and which objects are held, level by level. Our own. Read Covers first, then IsUpTo.
use Rattle.std.specs.Prelude.{ℕ, if◌then◌else◌, zero, suc, ◌≡◌, ◌≢◌, ◌⊎◌, true, is_some, List, [], ◌∷◌, Option, None, Some, Result, Ok, Err, alloc_error, ⊤}
use Rattle.std.specs.FinMap as map
use Rattle.std.specs.List.{AllByRecursion, Contains}
use Rattle.std.specs.declared.alloc.AllocError.{AllocError}
use Rattle.sha1.specs.Sha1.{sha1}
use Rattle.ids.specs.Key.{Objects, key_cmp}
use Rattle.ids.specs.ObjectId.{nil}
use Rattle.ids.specs.declared.key.Key.{Key}
use Rattle.fs_objects.specs.declared.dirent.Dirent.{Dirent}
use Rattle.fs_objects.specs.declared.fs_object.FsObject.{FsObject}
use Rattle.fs_objects.specs.declared.fs_object.FsObject.TheVariants as fs
use Rattle.object_graph.specs.Objects.{fs_at, fs_key, in_name_order, is_nil}
use Rattle.object_graph.specs.Reached.{ReachedFrom, named, own_keys}
use Rattle.object_graph.specs.Traversal.{is_in}
use Rattle.object_graph.specs.Unchanged.{Keeps}
use Rattle.object_graph.specs.declared.fault.TreeFault.{TreeFault}
use Rattle.object_store.specs.declared.error.StoreFault.{StoreFault}
use Rattle.object_store.specs.declared.error.StoreFault.TheVariants as store
use Rattle.tree_walk.specs.declared.fault.WalkFault.{WalkFault}
use Rattle.tree_walk.specs.declared.fault.WalkFault.TheVariants as walk
use Rattle.http_front.specs.declared.row.Row.{Row}
use Rattle.remote_calls.specs.Sends.{Sent}
use Rattle.sync_rules.specs.declared.fault.SyncFault.{SyncFault}
use Rattle.sync_rules.specs.declared.fault.SyncFault.TheVariants as fault
use Rattle.tree_fetch.specs.Fetching.{Fetching, Stopped}
use Rattle.tree_fetch.specs.declared.asker.Asker.{Asker}

-- ---- what is held

-- an id is one of these
abbrev pub IsAmong : List ℕ → List (List ℕ) → Type 0
IsAmong id [] = ⊥
IsAmong id (other ∷ ids) = (id ≡ other) ⊎ IsAmong id ids

-- the object of an id is held
abbrev pub IsHeld : Objects → List ℕ → Type 0
IsHeld held id = is_some (map.get held (fs_key id)) ≡ true

-- and forty zeros name none
abbrev pub IsThere : Objects → List ℕ → Type 0
IsThere held id = (id ≡ nil) ⊎ IsHeld held id

-- the entries of a directory in the order in which a traversal comes to them; a file has none, and neither has what can't be read
abbrev pub entries_in : Result FsObject TreeFault → List Dirent
entries_in (Ok (fs.Dir entries)) = in_name_order entries
entries_in (Ok (fs.File file)) = []
entries_in (Err fault) = []

abbrev pub entries_at : Objects → List ℕ → List Dirent
entries_at held id = if is_nil id then [] else entries_in (fs_at held id)

-- what lies below an id is held, as far as a path goes through so many objects, this one among them
abbrev pub Covers : Objects → ℕ → List ℕ → Type 0
Covers held zero id = ⊤
Covers held (suc room) id = IsThere held id × AllByRecursion (λ (e : Dirent). Covers held room e.id) (entries_at held id)

-- ---- one object more

-- why an object is not kept
abbrev pub put_fault : List ℕ → StoreFault → SyncFault
put_fault id (store.Wrong got) = fault.Damaged id got
put_fault id _ = fault.NoMemory

-- the bytes are kept under their SHA-1, and nothing else is changed; or they have another
abbrev pub KeepsObject : List ℕ → List ℕ → Objects → Objects → Result ⊤ SyncFault → Type 0
KeepsObject id bytes old new (Ok done) = (sha1 bytes ≡ id) × (new ≡ map.insert old (fs_key id) bytes) × Keeps old new
KeepsObject id bytes old new (Err (fault.Damaged want got)) = (want ≡ id) × (got ≡ sha1 bytes) × (sha1 bytes ≢ id)
KeepsObject id bytes old new (Err fault.NoMemory) = ⊤
KeepsObject id bytes old new (Err _) = ⊥

-- each of the rows is kept, one after another
abbrev pub PutsAll : List Row → Objects → Objects → Type 0
PutsAll [] old new = new ≡ old
PutsAll (row ∷ rows) old new = (sha1 row.bytes ≡ row.id) × Keeps old (map.insert old (fs_key row.id) row.bytes) × PutsAll rows (map.insert old (fs_key row.id) row.bytes) new

-- or one of them has another SHA-1
abbrev pub KeepsRows : List Row → Objects → Objects → Result ⊤ SyncFault → Type 0
KeepsRows rows old new (Ok done) = PutsAll rows old new
KeepsRows rows old new (Err (fault.Damaged want got)) = (row : Row) × Contains rows row × (want ≡ row.id) × (got ≡ sha1 row.bytes) × (sha1 row.bytes ≢ row.id)
KeepsRows rows old new (Err fault.NoMemory) = ⊤
KeepsRows rows old new (Err _) = ⊥

-- ---- one list of ids

-- a fetch of files and directories stops; that something is wrong with their tree is not looked at
abbrev pub Halts : Asker → (from : List Key) → List Sent → List Sent → SyncFault → Type 0
Halts asker from before now (fault.BadTree why) = ⊥
Halts asker from before now f = Stopped asker from before now f

-- each of these ids is reached, over any objects that have what is held
pub record AreReached (from : List Key) (held : Objects) (ids : List (List ℕ)) : Type 0 where
  pub each : (id : List ℕ) → IsAmong id ids → (objects : Objects) → Keeps held objects → ReachedFrom objects [] from (fs_key id)

-- the objects of these ids are held now, and no other that was not held before
pub record Grows (ids : List (List ℕ)) (old new : Objects) : Type 0 where
  pub keeps : Keeps old new
  pub there : (id : List ℕ) → IsAmong id ids → IsHeld new id
  pub only : (id : List ℕ) → IsHeld new id → IsHeld old id ⊎ IsAmong id ids

-- from wherever the fetch began
abbrev pub FetchesList : Asker → (from : List Key) → List Sent → List Sent → List (List ℕ) → Objects → Objects → Result ⊤ SyncFault → Type 0
FetchesList asker from before now ids old new (Ok done) = Fetching asker from before now new × Grows ids old new
FetchesList asker from before now ids old new (Err f) = Halts asker from before now f

-- ---- what directories name

-- the ids that were met
abbrev pub Seen : Type 0
Seen = map.FinMap key_cmp ⊤

abbrev pub IsMet : Seen → List ℕ → Type 0
IsMet seen id = is_some (map.get seen (fs_key id)) ≡ true

abbrev pub IsSeen : Seen → List ℕ → Type 0
IsSeen seen id = (id ≡ nil) ⊎ IsMet seen id

-- what was met and listed stays so, and what is met newly is listed
pub record Lists (old new : Seen) (listed more : List (List ℕ)) : Type 0 where
  pub met : (id : List ℕ) → IsMet old id → IsMet new id
  pub stays : (id : List ℕ) → IsAmong id listed → IsAmong id more
  pub fresh : (id : List ℕ) → IsMet new id → IsMet old id ⊎ IsAmong id more

-- nothing is listed but what these keys name
pub record Adds (keys : List Key) (listed more : List (List ℕ)) : Type 0 where
  pub only : (id : List ℕ) → IsAmong id more → IsAmong id listed ⊎ (is_in keys (fs_key id) ≡ true)

-- an object among these ids names an id
pub record IsNamedBy (held : Objects) (ids : List (List ℕ)) (id : List ℕ) : Type 0 where
  pub above : List ℕ
  pub among : IsAmong above ids
  pub naming : is_in (named held (fs_key above)) (fs_key id) ≡ true

pub record AreNamed (held : Objects) (ids next : List (List ℕ)) : Type 0 where
  pub each : (id : List ℕ) → IsAmong id next → IsNamedBy held ids id

-- each of these entries was seen
abbrev pub AreSeen : Seen → List Dirent → Type 0
AreSeen seen entries = AllByRecursion (λ (e : Dirent). IsSeen seen e.id) entries

-- the same of what the directories among these ids name
abbrev pub AreListed : Objects → Seen → List (List ℕ) → Type 0
AreListed held seen ids = AllByRecursion (λ (id : List ℕ). AreSeen seen (entries_at held id)) ids

-- the object that an id names, or none where it can't be read
abbrev pub FindsObject : Result FsObject TreeFault → Option FsObject → Type 0
FindsObject due (Some object) = due ≡ Ok object
FindsObject due None = (why : TreeFault) × (due ≡ Err why)

-- what can't be read is none, unless the store failed
abbrev pub unread_of : WalkFault → Result (Option FsObject) AllocError
unread_of (walk.Store why) = Err alloc_error
unread_of _ = Ok None

-- ---- level by level

-- why a sync ends with what is wrong with a tree
abbrev pub tree_fault : WalkFault → SyncFault
tree_fault (walk.Store why) = fault.NoMemory
tree_fault why = fault.BadTree why

-- one level, and the ids of the next one
abbrev pub FetchesLevel : Asker → (from : List Key) → List Sent → List Sent → List (List ℕ) → Objects → Objects → Seen → Seen → Result (List (List ℕ)) SyncFault → Type 0
FetchesLevel asker from before now ids old new seen more (Ok next) =
    Fetching asker from before now new × Grows ids old new × Lists seen more [] next × AreListed new more ids × AreReached from new next
FetchesLevel asker from before now ids old new seen more (Err f) = Halts asker from before now f

-- so many levels were gone over: what was met is held, or among the ids of the next one
pub record IsUpTo (root : List ℕ) (levels : ℕ) (held : Objects) (seen : Seen) (ids : List (List ℕ)) : Type 0 where
  pub met : (id : List ℕ) → IsMet seen id → IsHeld held id ⊎ IsAmong id ids
  pub closed : (id : List ℕ) → IsHeld held id → AreSeen seen (entries_at held id)
  pub root_seen : IsSeen seen root
  pub covered : Covers held levels root

-- the whole of it
abbrev pub FetchesLevels : Asker → List Sent → List Sent → (root : List ℕ) → Result Objects SyncFault → Type 0
FetchesLevels asker before now root (Ok held) = Fetching asker (own_keys root) before now held × Covers held 101 root
FetchesLevels asker before now root (Err f) = Halts asker (own_keys root) before now f

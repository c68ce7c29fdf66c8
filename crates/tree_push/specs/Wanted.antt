-- The objects and the blocks of the files that are new or changed, of which a library is asked what it lacks. Our own. Read HasFile,
-- then HasFiles.
use Rattle.std.specs.Prelude.{◌≡◌, ◌⊎◌, ◌==◌, ℕ, Bool, true, false, List, [], ◌∷◌, Option, None, Some, IsSome, Ok, ⊤}
use Rattle.std.specs.FinMap as fin
use Rattle.sha1.specs.Sha1.{sha1}
use Rattle.ids.specs.Key.{Objects, key_cmp}
use Rattle.ids.specs.declared.key.Key.{Key}
use Rattle.tree_model.specs.Path.{PathV}
use Rattle.tree_model.specs.Tree.{Tree}
use Rattle.block_chunker.specs.declared.cuts.Cuts.{Cuts}
use Rattle.fs_objects.specs.FsObject.{fs_of}
use Rattle.fs_objects.specs.Proper.{IsProper}
use Rattle.fs_objects.specs.Spelling.{text_of}
use Rattle.fs_objects.specs.declared.fs_object.FsObject.TheVariants as fs
use Rattle.object_graph.specs.Objects.{block_key, fs_key}
use Rattle.object_graph.specs.Unchanged.{Keeps}
use Rattle.folder_side.specs.Folder.{Contents}
use Rattle.folder_side.specs.declared.scan_report.Seen.{Seen}
use Rattle.folder_side.specs.declared.scan_report.Seen.TheVariants as seen
use Rattle.local_index.specs.OwnIds.{own_id}
use Rattle.local_index.specs.declared.index.Index.{Index}
use Rattle.local_index.specs.declared.index.Known.{Known}
use Rattle.remote_calls.specs.Sends.{Sent}
use Rattle.sync_rules.specs.Named.{IsHad}
use Rattle.sync_rules.specs.Premises.{Over}
use Rattle.tree_push.specs.OfferedEntries.{KnownPaths, SeenPaths, is_kept}
use Rattle.tree_push.specs.OfferedNames.{HasChanged}
use Rattle.tree_push.specs.declared.wanted.Wanted.{Wanted}

-- the text of a file's object
abbrev pub file_text : List (List ℕ) → ℕ → List ℕ
file_text blocks size = text_of (fs.File (record { blocks = blocks; size = size }))

-- an object of that name was made, and the text is read as the file
pub record HasObject (made : Objects) (blocks : List (List ℕ)) (size : ℕ) : Type 0 where
  pub there : IsSome (fin.get made (fs_key (sha1 (file_text blocks size))))
  pub reads : IsProper (fs.File (record { blocks = blocks; size = size })) → fs_of (file_text blocks size) ≡ Ok (fs.File (record { blocks = blocks; size = size }))

-- an id stands in a list
abbrev pub IsIn : List ℕ → List (List ℕ) → Type 0
IsIn id [] = ⊥
IsIn id (other ∷ ids) = (id ≡ other) ⊎ IsIn id ids

abbrev pub IsWantedIn : Wanted → List ℕ → Type 0
IsWantedIn wanted id = IsSome (fin.get wanted.blocks (block_key id))

-- its blocks are wanted, and so is its object, if it has bytes
pub record HasFile (wanted : Wanted) (blocks : List (List ℕ)) (size : ℕ) : Type 0 where
  pub object : (size == 0) ≡ false → HasObject wanted.made blocks size
  pub all : (id : List ℕ) → IsIn id blocks → IsWantedIn wanted id

-- what was seen at a path is wanted, unless it is kept as it is known
abbrev pub HasSeen : Wanted → Option Known → Seen → Type 0
HasSeen wanted was seen.Dir = ⊤
HasSeen wanted was (seen.File blocks size) = is_kept was (own_id blocks size) ≡ false → HasFile wanted blocks size

abbrev pub HasFiles : KnownPaths → SeenPaths → Wanted → Type 0
HasFiles knowns seens wanted = (path : PathV) (s : Seen) → fin.get seens path ≡ Some s → HasSeen wanted (fin.get knowns path) s

-- each object lies under its own name
abbrev pub AreOwnNamed : Objects → Type 0
AreOwnNamed made = (key : Key) (bytes : List ℕ) → fin.get made key ≡ Some bytes → key ≡ fs_key (sha1 bytes)

-- a key is that of a block of a file that was seen
pub record IsSeenBlock (seens : SeenPaths) (key : Key) : Type 0 where
  pub path : PathV
  pub blocks : List (List ℕ)
  pub size : ℕ
  pub seen : fin.get seens path ≡ Some (seen.File blocks size)
  pub id : List ℕ
  pub is : key ≡ block_key id
  pub there : IsIn id blocks

-- the file isn't kept as it is known
pub record IsChangedBlock (knowns : KnownPaths) (seens : SeenPaths) (key : Key) : Type 0 where
  pub block : IsSeenBlock seens key
  pub changed : is_kept (fin.get knowns block.path) (own_id block.blocks block.size) ≡ false

-- a key is that of the object of a file that was seen, has bytes, and isn't kept as it is known
pub record IsChangedObject (knowns : KnownPaths) (seens : SeenPaths) (key : Key) : Type 0 where
  pub path : PathV
  pub blocks : List (List ℕ)
  pub size : ℕ
  pub seen : fin.get seens path ≡ Some (seen.File blocks size)
  pub changed : is_kept (fin.get knowns path) (own_id blocks size) ≡ false
  pub some : (size == 0) ≡ false
  pub is : key ≡ fs_key (sha1 (file_text blocks size))

-- no more is wanted than the blocks and the objects of files that are new or changed
pub record AddsChanged (knowns : KnownPaths) (seens : SeenPaths) (old new : Wanted) : Type 0 where
  pub blocks : (key : Key) → IsSome (fin.get new.blocks key) → IsSome (fin.get old.blocks key) ⊎ IsChangedBlock knowns seens key
  pub objects : (key : Key) → IsSome (fin.get new.made key) → IsSome (fin.get old.made key) ⊎ IsChangedObject knowns seens key

abbrev pub AreChangedBlocks : KnownPaths → SeenPaths → Wanted → Type 0
AreChangedBlocks knowns seens wanted = (key : Key) → IsSome (fin.get wanted.blocks key) → IsChangedBlock knowns seens key

-- nothing else is wanted
abbrev pub AreSeenBlocks : SeenPaths → Wanted → Type 0
AreSeenBlocks seens wanted = (key : Key) → IsSome (fin.get wanted.blocks key) → IsSeenBlock seens key

-- more is wanted, and nothing is lost
pub record Grows (old new : Wanted) : Type 0 where
  pub made : Keeps old.made new.made
  pub blocks : (key : Key) → IsSome (fin.get old.blocks key) → IsSome (fin.get new.blocks key)
  pub named : AreOwnNamed old.made → AreOwnNamed new.made

-- over any objects that have what these sends named, each file that is new or changed has its object and its blocks, and what was made
-- is there
pub record HasNamed (cuts : Cuts) (c : Contents) (index : Index) (wanted : Wanted) (more : List Sent) : Type 0 where
  pub had : List (Key × List ℕ)
  pub is_had : IsHad more had
  pub changed : (objects : Objects) (base : Tree) → Over objects cuts c index base had → HasChanged objects cuts c index base had
  pub keeps : (objects : Objects) (base : Tree) → Over objects cuts c index base had → Keeps wanted.made objects

-- ---- for private clauses

-- a key is that of one of these ids
abbrev pub IsOneOf : List (List ℕ) → Key → Type 0
IsOneOf ids key = (id : List ℕ) × (key ≡ block_key id) × IsIn id ids

abbrev pub Blocks : Type 0
Blocks = fin.FinMap key_cmp ⊤

-- these ids are wanted, and no others more
pub record AddsIds (ids : List (List ℕ)) (old new : Blocks) : Type 0 where
  pub kept : (key : Key) → IsSome (fin.get old key) → IsSome (fin.get new key)
  pub all : (id : List ℕ) → IsIn id ids → IsSome (fin.get new (block_key id))
  pub only : (key : Key) → IsSome (fin.get new key) → IsSome (fin.get old key) ⊎ IsOneOf ids key

-- no more is wanted than the blocks of a file, and its object, if it has bytes
abbrev pub IsObjectOf : List (List ℕ) → ℕ → Key → Type 0
IsObjectOf blocks size key = ((size == 0) ≡ false) × (key ≡ fs_key (sha1 (file_text blocks size)))

pub record AddsFile (blocks : List (List ℕ)) (size : ℕ) (old new : Wanted) : Type 0 where
  pub blocks_of : (key : Key) → IsSome (fin.get new.blocks key) → IsSome (fin.get old.blocks key) ⊎ IsOneOf blocks key
  pub object_of : (key : Key) → IsSome (fin.get new.made key) → IsSome (fin.get old.made key) ⊎ IsObjectOf blocks size key

-- nothing is wanted more
pub record AddsNone (old new : Wanted) : Type 0 where
  pub blocks : (key : Key) → IsSome (fin.get new.blocks key) → IsSome (fin.get old.blocks key)
  pub objects : (key : Key) → IsSome (fin.get new.made key) → IsSome (fin.get old.made key)

-- a file that has an own id here, as those have that are new or changed, is wanted
abbrev pub HasIf : Seen → (changed : Option (List ℕ)) → Wanted → Type 0
HasIf seen.Dir changed wanted = ⊤
HasIf (seen.File blocks size) None wanted = ⊤
HasIf (seen.File blocks size) (Some own) wanted = HasFile wanted blocks size

-- and no more is wanted
abbrev pub AddsIf : Seen → (changed : Option (List ℕ)) → Wanted → Wanted → Type 0
AddsIf seen.Dir changed old new = AddsNone old new
AddsIf (seen.File blocks size) None old new = AddsNone old new
AddsIf (seen.File blocks size) (Some own) old new = AddsFile blocks size old new

-- what was seen is wanted, unless it is kept as it is known, and no more
abbrev pub AddsUnless : (kept : Bool) → List (List ℕ) → ℕ → Wanted → Wanted → Type 0
AddsUnless true blocks size old new = AddsNone old new
AddsUnless false blocks size old new = AddsFile blocks size old new

abbrev pub AddsOf : Option Known → Seen → Wanted → Wanted → Type 0
AddsOf was seen.Dir old new = AddsNone old new
AddsOf was (seen.File blocks size) old new = AddsUnless (is_kept was (own_id blocks size)) blocks size old new

-- no object is there more but one of this text's name
abbrev pub AddsText : List ℕ → Objects → Objects → Type 0
AddsText text old new = (key : Key) → IsSome (fin.get new key) → IsSome (fin.get old key) ⊎ (key ≡ fs_key (sha1 text))

-- something of this text's name was made
abbrev pub IsKept : List ℕ → Objects → Type 0
IsKept text made = IsSome (fin.get made (fs_key (sha1 text)))

-- the ids of entries by key
abbrev pub ids_in : {V : Type 0} → List (Key × V) → List (List ℕ)
ids_in [] = []
ids_in (e ∷ es) = e.0.id ∷ ids_in es

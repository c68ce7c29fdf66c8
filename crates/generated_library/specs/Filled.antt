-- A library that was filled, as it stands. Our own. Read entries_of, then IsPush, then IsFilled. Read before: Generated; made of
-- `commit_objects`, State of `library_rules`, AreEntriesOf and IsTreeOf of `object_graph`.
use Rattle.std.specs.Prelude.{◌≡◌, ◌≢◌, ◌⊎◌, ℕ, ◌+◌, ◌%◌, ◌==◌, ◌&&◌, ◌||◌, not, min, Bool, true, false, if◌then◌else◌, List, [], ◌∷◌, ◌++◌, All, length, pos, None, Some, Ok, codes, ⊤}
use Rattle.std.specs.FinMap as map
use Rattle.sha1.specs.Sha1.{sha1}
use Rattle.commit_objects.specs.Made.{made}
use Rattle.commit_objects.specs.declared.commit.Commit.{Commit}
use Rattle.fs_objects.specs.FsObject.{fs_of}
use Rattle.fs_objects.specs.Spelling.{text_of}
use Rattle.fs_objects.specs.declared.file_object.FileObject.{FileObject}
use Rattle.fs_objects.specs.declared.fs_object.FsObject.TheVariants as fs
use Rattle.ids.specs.Key.{Objects}
use Rattle.ids.specs.ObjectId.{nil}
use Rattle.ids.specs.declared.key.Key.{Key}
use Rattle.library_rules.specs.LibraryState.{State, head_of, is_needed, is_stored}
use Rattle.object_graph.specs.Objects.{AreEntriesOf, IsTreeOf, block_key, commit_at, commit_key, fs_key}
use Rattle.object_graph.specs.Traversal.{IsComplete, is_in, needs}
use Rattle.library_state.specs.declared.history.Install.{Install}
use Rattle.object_graph.specs.Unchanged.{AgreeOn, Keeps}
use Rattle.object_graph.specs.declared.entry.Entry.{Entry}
use Rattle.object_graph.specs.declared.entry.Entry.TheVariants as entry
use Rattle.sync_calls.specs.Collecting.{told}
use Rattle.tree_merge.specs.Sides.{Entries}
use Rattle.generated_library.specs.Directories.{HasTimes, IsOfRoot, IsRootOf}
use Rattle.generated_library.specs.Generated.{bytes_made, changed_from, dir_name, file_name, files_from, tree_of}
use Rattle.generated_library.specs.Leading.{Adds, Grows}
use Rattle.generated_library.specs.declared.filling.Filled.{Filled}

-- ---- what the directories of a push list

-- a file is one block, and its object has the name of its own text
abbrev pub file_object : List ℕ → FileObject
file_object bytes = record { blocks = sha1 bytes ∷ []; size = length bytes }

abbrev pub file_text : List ℕ → List ℕ
file_text bytes = text_of (fs.File (file_object bytes))

abbrev pub file_id : List ℕ → List ℕ
file_id bytes = sha1 (file_text bytes)

-- the entry of a file
abbrev pub entry_by : ℕ → List ℕ → ℕ → Entry
entry_by moment id size = entry.File id 33188 (pos (min moment 9223372036854775807)) (codes "make") size

abbrev pub file_entry : ℕ → List ℕ → Entry
file_entry moment bytes = entry_by moment (file_id bytes) (length bytes)

-- the entries with that of one file more, in its directory; and with these files more
abbrev pub put_entry : ℕ → Entry → Entries → Entries
put_entry number e entries = map.insert (map.insert entries (dir_name number ∷ []) entry.Dir) (dir_name number ∷ file_name number ∷ []) e

abbrev pub with_entry : ℕ → ℕ → List ℕ → Entries → Entries
with_entry moment number bytes entries = put_entry number (file_entry moment bytes) entries

abbrev pub with_entries : ℕ → ℕ → List (List ℕ) → Entries → Entries
with_entries moment number [] entries = entries
with_entries moment number (bytes ∷ more) entries = with_entries moment (number + 1) more (with_entry moment number bytes entries)

abbrev pub entries_of : ℕ → List (List ℕ) → Entries
entries_of moment files = with_entries moment 0 files map.empty

-- ---- what was pushed

-- the update at a moment by which a commit became the head as it was pushed
abbrev pub update_of : List ℕ → ℕ → Install
update_of id moment = record { head = id; pushed = id; at = moment }

-- a commit that `make` made at a moment, over one other, lists these files, each of one block and under its size; so it has their tree, whose
-- directories have the time of the files
pub record IsPush (objects : Objects) (id parent : List ℕ) (moment : ℕ) (files : List (List ℕ)) : Type 0 where
  pub commit : Commit
  pub at : commit_at objects id ≡ Ok commit
  pub is : commit ≡ made commit.lib commit.root (Some parent) None (codes "make") (codes "make") moment false
  pub entries : AreEntriesOf objects commit.root (entries_of moment files)
  pub tree : IsTreeOf objects commit.root (tree_of moment files)
  pub times : HasTimes objects commit.root moment

-- a key was stored before, or one of these two commits needs it
abbrev pub IsOfPushes : (old new : Objects) → (mid head : List ℕ) → Key → Type 0
IsOfPushes old new mid head key = (is_stored old key ≡ true) ⊎ ((is_in (needs new mid) key ≡ true) ⊎ (is_in (needs new head) key ≡ true))

-- at a moment that the clock shows the files were pushed over the first commit, by a commit that was the head, and then every tenth with one
-- byte more over that; so the library stood as its collection began, with all that was stored before it was filled, and beside that with what
-- the two commits need, all of it and nothing else. What is left stood there then; one update is kept, which was made at that moment (but where
-- the second commit is the first itself), no history is to be kept, and a kept commit needs all that is left. The numbers are those of the
-- head's tree, of the objects that were stored as the collection began, and of those that left
pub record IsFilled (was_head : List ℕ → Type 0) (shows : ℕ → Type 0) (count number : ℕ) (first : List ℕ) (filled : Filled) (s t : State) : Type 0 where
  pub moment : ℕ
  pub shown : shows moment
  pub before : Objects
  pub since : Keeps s.objects before
  pub mid : List ℕ
  pub one : IsPush before mid first moment (files_from count number)
  pub pushed : was_head mid
  pub two : IsPush before (head_of t.state.kept) mid moment (changed_from 0 (files_from count number))
  pub complete : IsComplete before mid × IsComplete before (head_of t.state.kept)
  pub new : (key : Key) → is_stored before key ≡ true → IsOfPushes s.objects before mid (head_of t.state.kept) key
  pub head : IsPush t.objects (head_of t.state.kept) mid moment (changed_from 0 (files_from count number))
  pub left : Keeps t.objects before
  pub alone : length t.state.kept ≡ 1
  pub update : mid ≢ head_of t.state.kept → t.state.kept ≡ update_of (head_of t.state.kept) moment ∷ []
  pub clean : (key : Key) → is_stored t.objects key ≡ true → is_needed t.objects t.state.kept key ≡ true
  pub days : t.state.days ≡ pos 0
  pub paths : filled.paths ≡ map.len (tree_of moment (changed_from 0 (files_from count number)))
  pub bytes : filled.bytes ≡ bytes_made count number
  pub gone : ℕ
  pub size : map.len before ≡ map.len t.objects + gone
  pub removed : filled.removed ≡ told gone

-- ---- for private clauses: what is put of a file

-- the block and the object of a file are stored, its object is read as it, and neither has forty zeros
pub record IsFileStored (objects : Objects) (bytes : List ℕ) : Type 0 where
  pub block : map.get objects (block_key (sha1 bytes)) ≡ Some bytes
  pub file : map.get objects (fs_key (file_id bytes)) ≡ Some (file_text bytes)
  pub reads : fs_of (file_text bytes) ≡ Ok (fs.File (file_object bytes))
  pub some : (sha1 bytes ≢ nil) × (file_id bytes ≢ nil)

abbrev pub AreStored : Objects → List (List ℕ) → Type 0
AreStored objects files = All (IsFileStored objects) files

-- before a second push the files are stored already
abbrev pub AreThere : Bool → Objects → List (List ℕ) → Type 0
AreThere false objects files = ⊤
AreThere true objects files = AreStored objects files

-- the files of a push, the first or the second, where those from this number on are left
abbrev pub pushed_files : Bool → ℕ → List (List ℕ) → List (List ℕ)
pushed_files false from files = files
pushed_files true from files = changed_from from files

-- whether a push changes a file, and with its mark
abbrev pub is_marked : Bool → ℕ → Bool
is_marked is_second number = is_second && (number % 10 == 0)

abbrev pub marked : Bool → List ℕ → List ℕ
marked is_changed bytes = if is_changed then bytes ++ 33 ∷ [] else bytes

-- the bytes of one, and whether it is put
abbrev pub pushed_bytes : Bool → ℕ → List ℕ → List ℕ
pushed_bytes is_second number bytes = marked (is_marked is_second number) bytes

abbrev pub is_put : Bool → ℕ → Bool
is_put is_second number = is_marked is_second number || not is_second

-- a key of a file: of its block, or of its object
abbrev pub IsOfFile : List ℕ → Key → Type 0
IsOfFile bytes key = (key ≡ block_key (sha1 bytes)) ⊎ (key ≡ fs_key (file_id bytes))

-- of one of these files
abbrev pub IsOfFiles : List (List ℕ) → Key → Type 0
IsOfFiles [] key = ⊥
IsOfFiles (bytes ∷ more) key = IsOfFile bytes key ⊎ IsOfFiles more key

-- ---- for private clauses: what each step leaves of a library

-- nothing came
abbrev pub Checks : State → State → Type 0
Checks s t = Grows s t × (t.objects ≡ s.objects)

-- an object was put, or was stored already, and no other one came
abbrev pub Puts : Key → List ℕ → State → State → Type 0
Puts key bytes s t = Grows s t × (map.get t.objects key ≡ Some bytes) × (key.id ≢ nil) × Adds (λ (k : Key). k ≡ key) s t

-- so were a block and a file object, each under its own name
pub record PutsBoth (bytes text : List ℕ) (s t : State) : Type 0 where
  pub mid : State
  pub block : Puts (block_key (sha1 bytes)) bytes s mid
  pub file : Puts (fs_key (sha1 text)) text mid t

-- so were all of these objects
abbrev pub PutsAll : Objects → State → State → Type 0
PutsAll made s t = Grows s t × ((objects : Objects) → Keeps t.objects objects → Keeps made objects) × Adds (λ (k : Key). is_stored made k ≡ true) s t

-- so was a file, where it is new
abbrev pub PutsFile : Bool → List ℕ → State → State → Type 0
PutsFile is_new bytes s t = Grows s t × (is_new ≡ true → IsFileStored t.objects bytes) × Adds (IsOfFile bytes) s t

abbrev pub HasFiles : Bool → List (List ℕ) → State → Type 0
HasFiles is_second files s = AreThere is_second s.objects files

abbrev pub Stores : List (List ℕ) → State → State → Type 0
Stores files s t = Grows s t × AreStored t.objects files × Adds (IsOfFiles files) s t

-- the root stands for the entries, with directories of this moment, and so it does as long as what is stored stays
abbrev pub HasTree : ℕ → Entries → List ℕ → State → State → Type 0
HasTree moment entries root s t = Grows s t × IsRootOf moment entries t.objects root × Adds (IsOfRoot t.objects root) s t

abbrev pub HasCommit : List ℕ → Commit → State → State → Type 0
HasCommit id commit s t = Grows s t × (commit.id ≡ id) × (commit_at t.objects id ≡ Ok commit) × (id ≢ nil) × Adds (λ (k : Key). k ≡ commit_key id) s t

-- a commit is stored whose first parent is the head
abbrev pub IsOver : List ℕ → State → Type 0
IsOver id s = (commit : Commit) × (commit_at s.objects id ≡ Ok commit) × (commit.parent ≡ Some (head_of s.state.kept))

-- it is the head, and this moment's update is kept unless it was the head before
pub record Updates (id : List ℕ) (moment : ℕ) (s t : State) : Type 0 where
  pub objects : t.objects ≡ s.objects
  pub head : head_of t.state.kept ≡ id
  pub kept : head_of s.state.kept ≢ id → t.state.kept ≡ s.state.kept ++ update_of id moment ∷ []
  pub idle : s.running ≡ None → t.running ≡ None

-- a library stands at a commit, and has the files before a second push
abbrev pub IsBeside : Bool → List ℕ → List (List ℕ) → State → Type 0
IsBeside is_second parent files s = (head_of s.state.kept ≡ parent) × HasFiles is_second files s

-- files were pushed by a commit, which is the head, and needs all that came, where it is complete
pub record Pushes (id parent : List ℕ) (moment : ℕ) (files : List (List ℕ)) (s t : State) : Type 0 where
  pub keeps : Keeps s.objects t.objects
  pub idle : s.running ≡ None → t.running ≡ None
  pub head : head_of t.state.kept ≡ id
  pub kept : parent ≢ id → t.state.kept ≡ s.state.kept ++ update_of id moment ∷ []
  pub push : (objects : Objects) → Keeps t.objects objects → IsPush objects id parent moment files
  pub stored : AreStored t.objects files
  pub new : (objects : Objects) → Keeps t.objects objects → IsComplete objects id → Adds (λ (k : Key). is_in (needs objects id) k ≡ true) s t

-- no history is to be kept
abbrev pub Limits : State → State → Type 0
Limits s t = Grows s t × (t.state.days ≡ pos 0) × (t.objects ≡ s.objects)

-- no collection runs, and no history is to be kept
abbrev pub IsResting : State → Type 0
IsResting s = (s.running ≡ None) × (s.state.days ≡ pos 0)

-- the last update alone is kept, what its head needs is as it was, and so is the limit of days; so many objects left, all that it doesn't need
pub record Collects (removed : ℕ) (s t : State) : Type 0 where
  pub gone : ℕ
  pub size : map.len s.objects ≡ map.len t.objects + gone
  pub count : removed ≡ told gone
  pub left : Keeps t.objects s.objects
  pub alone : length t.state.kept ≡ 1
  pub last : (front : List Install) (install : Install) → s.state.kept ≡ front ++ install ∷ [] → t.state.kept ≡ install ∷ []
  pub head : head_of t.state.kept ≡ head_of s.state.kept
  pub agree : AgreeOn (needs s.objects (head_of s.state.kept)) s.objects t.objects
  pub clean : (key : Key) → is_stored t.objects key ≡ true → is_needed t.objects t.state.kept key ≡ true
  pub days : t.state.days ≡ s.state.days

-- no collection runs, and the library stands at this commit
abbrev pub IsNew : List ℕ → State → Type 0
IsNew first s = (s.running ≡ None) × (head_of s.state.kept ≡ first)

-- In which order what was put is made durable. Our own. Read Step first, then SyncsAll and TextComesLast, then IsInOrder.
-- A disk may tell its steps; the one over files tells None, and ToldDisk tells all.
use Rattle.std.specs.Prelude.{◌≡◌, ◌⊎◌, ◌++◌, ℕ, Bool, false, true, List, [], ◌∷◌, Option, None, Some, Result, Ok, Err, ⊤, map, option_map, slice_index}
use Rattle.ids.specs.declared.key.Key.{Key}
use Rattle.object_store.specs.declared.shelf.Slot.{Slot}
use Rattle.object_store.specs.declared.shelf.Slot.TheVariants.{Object, Status}
use Rattle.std.specs.IoError.{error_kind}
use Rattle.std.specs.declared.io.Error.{Error}
use Rattle.std.specs.declared.io.ErrorKind.{ErrorKind}
use Rattle.std.specs.declared.io.ErrorKind.TheVariants.{OutOfMemory}
use Rattle.folder_storage.specs.declared.durability.Directory.{Directory}
use Rattle.folder_storage.specs.declared.durability.Directory.TheVariants.{Objects, OfKind}

-- what was done: an object was put; what earlier runs put was added to the list of what is to be synced, which was this
-- then; the syncs of these objects were begun; an object's file was synced, or the names in a folder were; the disk was
-- told whether all syncs were done; or a state text was put
pub data Step : Type 0 where
  PutObject : Key → Step
  Gathered : List Key → Step
  BeganSyncs : List Key → Step
  SyncedObject : Key → Step
  SyncedDirectory : Directory → Step
  EndedSyncs : Bool → Step
  PutText : List ℕ → Step

-- the steps so far and these after them, where they are told
abbrev pub with_steps : Option (List Step) → List Step → Option (List Step)
with_steps told more = option_map (λ steps. steps ++ more) told

-- it is one of the list
abbrev pub In : {A : Type 0} → A → List A → Type 0
In x [] = ⊥
In x (y ∷ ys) = (x ≡ y) ⊎ In x ys

-- each of the first list is one of the second
abbrev pub AreAmong : List Key → List Key → Type 0
AreAmong keys more = (key : Key) → In key keys → In key more

-- after a put into the slot: its object is one of the list, and after a state text none is in it
abbrev pub IsListed : Slot → List Key → Type 0
IsListed (Object key) keys = In key keys
IsListed Status keys = keys ≡ []

-- a put of an object takes none from the list, done or not
abbrev pub StaysListed : Slot → (old new : List Key) → Type 0
StaysListed (Object key) old new = AreAmong old new
StaysListed Status old new = ⊤

-- a put made this of the disk, or it failed before the disk was asked
abbrev pub PutsOrStays : {D : Type 0} → (Bool → D → D → Type 0) → Bool → (old new : D) → Type 0
PutsOrStays puts true old new = puts true old new
PutsOrStays puts false old new = (new ≡ old) ⊎ puts false old new

-- of which kind the failure of a call is, where it failed
abbrev pub fault_kind : {T : Type 0} → Result T Error → Option ErrorKind
fault_kind (Ok done) = None
fault_kind (Err failure) = Some (error_kind failure)

-- memory was wanting, or a call of the disk failed so, and this is what is known of the disk since; `ends` tells it
abbrev pub FailsSo : {D : Type 0} → (Option ErrorKind → D → Type 0) → D → Error → Type 0
FailsSo ends disk failure = (error_kind failure ≡ OutOfMemory) ⊎ ends (Some (error_kind failure)) disk

-- that is so where a call over the disk failed
abbrev pub FailsAsDisk : {D T : Type 0} → (Option ErrorKind → D → Type 0) → D → Result T Error → Type 0
FailsAsDisk ends disk (Ok done) = ⊤
FailsAsDisk ends disk (Err failure) = FailsSo ends disk failure

-- each object's folder is among the directories, and so is the folder of its kind
abbrev pub AreNamedIn : List Key → List Directory → Type 0
AreNamedIn keys directories = (key : Key) → In key keys → In (Objects key.kind (slice_index key.id 0)) directories × In (OfKind key.kind) directories

-- each of these objects is synced, and then every folder that names one
pub record SyncsEach (old new : Option (List Step)) (keys : List Key) : Type 0 where
  pub directories : List Directory
  pub named : AreNamedIn keys directories
  pub steps : new ≡ with_steps old (map SyncedObject keys ++ map SyncedDirectory directories)

-- what earlier runs put was added to the list, and all of that is among `more`
pub record Gathers (old new : Option (List Step)) (keys more : List Key) : Type 0 where
  pub gathered : List Key
  pub grown : AreAmong keys gathered
  pub whole : AreAmong gathered more
  pub steps : new ≡ with_steps old (Gathered gathered ∷ [])

-- the same, and then the syncs of all of that were begun
pub record BeginsSyncs (old new : Option (List Step)) (keys begun : List Key) : Type 0 where
  pub gathered : List Key
  pub grown : AreAmong keys gathered
  pub whole : AreAmong gathered begun
  pub steps : new ≡ with_steps old (Gathered gathered ∷ BeganSyncs begun ∷ [])

-- a round of syncs, from what is gathered on to what the disk is told as they end
abbrev pub round_of : (gathered begun : List Key) → List Step → Bool → List Step
round_of gathered begun syncs is_synced = Gathered gathered ∷ BeganSyncs begun ∷ (syncs ++ EndedSyncs is_synced ∷ [])

-- what earlier runs put is in the list too; each object of it is synced, then every folder that names one, and the disk
-- is told that all is synced
pub record SyncsAll (old new : Option (List Step)) (keys : List Key) : Type 0 where
  pub gathered : List Key
  pub grown : AreAmong keys gathered
  pub synced : List Key
  pub whole : AreAmong gathered synced
  pub directories : List Directory
  pub named : AreNamedIn synced directories
  pub steps : new ≡ with_steps old (round_of gathered synced (map SyncedObject synced ++ map SyncedDirectory directories) true)

-- that comes first, and the text after it
pub record TextComesLast (old new : Option (List Step)) (keys : List Key) (text : List ℕ) : Type 0 where
  pub before : Option (List Step)
  pub synced : SyncsAll old before keys
  pub put : new ≡ with_steps before (PutText text ∷ [])

-- every step is a sync
abbrev pub AreSyncs : List Step → Type 0
AreSyncs [] = ⊤
AreSyncs (PutObject key ∷ steps) = ⊥
AreSyncs (Gathered keys ∷ steps) = ⊥
AreSyncs (BeganSyncs keys ∷ steps) = ⊥
AreSyncs (SyncedObject key ∷ steps) = AreSyncs steps
AreSyncs (SyncedDirectory directory ∷ steps) = AreSyncs steps
AreSyncs (EndedSyncs is_synced ∷ steps) = ⊥
AreSyncs (PutText text ∷ steps) = ⊥

-- what was done more is syncs alone
pub record OnlySyncs (old new : Option (List Step)) : Type 0 where
  pub syncs : List Step
  pub steps : new ≡ with_steps old syncs
  pub no_text : AreSyncs syncs

-- all is synced where the call is done; else there were syncs alone
abbrev pub MakesDurable : {E : Type 0} → Option (List Step) → Option (List Step) → List Key → Result ⊤ E → Type 0
MakesDurable old new keys (Ok done) = SyncsEach old new keys
MakesDurable old new keys (Err failure) = OnlySyncs old new

-- no sync was begun, and the list has all that it had: nothing was done, or what earlier runs put is in it too
abbrev pub StopsBefore : (old new : Option (List Step)) → (keys left : List Key) → Type 0
StopsBefore old new keys left = ((new ≡ old) × AreAmong keys left) ⊎ Gathers old new keys left

-- syncs were begun, and the last that the disk was told is that not all were done. The list has all that was gathered
pub record StopsShort (old new : Option (List Step)) (keys left : List Key) : Type 0 where
  pub gathered : List Key
  pub grown : AreAmong keys gathered
  pub whole : AreAmong gathered left
  pub syncs : List Step
  pub no_text : AreSyncs syncs
  pub steps : new ≡ with_steps old (round_of gathered left syncs false)

-- a text is put after all that it may name is durable, or it isn't put; it is put where the call is done. The list loses
-- none of its objects while not all of them, and the folders that name them, are durable; the disk is told that all are
-- once they are, and never else
abbrev pub PutsDurably : {E : Type 0} → (old new : Option (List Step)) → (keys left : List Key) → List ℕ → Result ⊤ E → Type 0
PutsDurably old new keys left text (Ok done) = TextComesLast old new keys text
PutsDurably old new keys left text (Err failure) =
    (StopsBefore old new keys left ⊎ StopsShort old new keys left) ⊎ (SyncsAll old new keys ⊎ TextComesLast old new keys text)

-- what was found of earlier runs is in the list, unless it was added to it before
abbrev pub AddsEarlier : (near whole : List Key) → Bool → List Key → Type 0
AddsEarlier near whole has_earlier keys = has_earlier ≡ false → AreAmong near keys × AreAmong whole keys

-- what has to be synced before a text: the file of an object, or the names in a folder
pub data Due : Type 0 where
  File : Key → Due
  Names : Directory → Due

-- that a put makes due: its object's file, the object's folder, and that of its kind
abbrev pub IsDueOf : Key → Due → Type 0
IsDueOf put (File key) = key ≡ put
IsDueOf put (Names directory) = (directory ≡ Objects put.kind (slice_index put.id 0)) ⊎ (directory ≡ OfKind put.kind)

-- that one of the list makes due
abbrev pub IsDueIn : List Key → Due → Type 0
IsDueIn keys due = (key : Key) × In key keys × IsDueOf key due

-- after the steps, a put made it due, or what was gathered did, and it was not synced since; `before` are those of which
-- that held before them
abbrev pub IsUnsynced : (Due → Type 0) → List Step → Due → Type 0
IsUnsynced before [] = before
IsUnsynced before (PutObject put ∷ steps) = IsUnsynced (λ due. IsDueOf put due ⊎ before due) steps
IsUnsynced before (Gathered keys ∷ steps) = IsUnsynced (λ due. IsDueIn keys due ⊎ before due) steps
IsUnsynced before (BeganSyncs keys ∷ steps) = IsUnsynced before steps
IsUnsynced before (SyncedObject key ∷ steps) = IsUnsynced (λ due. before due × (due ≡ File key → ⊥)) steps
IsUnsynced before (SyncedDirectory directory ∷ steps) = IsUnsynced (λ due. before due × (due ≡ Names directory → ⊥)) steps
IsUnsynced before (EndedSyncs is_synced ∷ steps) = IsUnsynced before steps
IsUnsynced before (PutText text ∷ steps) = IsUnsynced before steps

-- at each text nothing is due and not synced, and so it is wherever the disk is told that all is synced
abbrev pub AreInOrder : (Due → Type 0) → List Step → Type 0
AreInOrder before [] = ⊤
AreInOrder before (PutObject put ∷ steps) = AreInOrder (λ due. IsDueOf put due ⊎ before due) steps
AreInOrder before (Gathered keys ∷ steps) = AreInOrder (λ due. IsDueIn keys due ⊎ before due) steps
AreInOrder before (BeganSyncs keys ∷ steps) = AreInOrder before steps
AreInOrder before (SyncedObject key ∷ steps) = AreInOrder (λ due. before due × (due ≡ File key → ⊥)) steps
AreInOrder before (SyncedDirectory directory ∷ steps) = AreInOrder (λ due. before due × (due ≡ Names directory → ⊥)) steps
AreInOrder before (EndedSyncs is_synced ∷ steps) = (is_synced ≡ true → (due : Due) → before due → ⊥) × AreInOrder before steps
AreInOrder before (PutText text ∷ steps) = ((due : Due) → before due → ⊥) × AreInOrder before steps

-- the same from the first step on, and what is due and not synced is so by an object of the list
abbrev pub IsInOrder : Option (List Step) → List Key → Type 0
IsInOrder None keys = ⊤
IsInOrder (Some steps) keys = AreInOrder (λ due. ⊥) steps × ((due : Due) → IsUnsynced (λ due. ⊥) steps due → IsDueIn keys due)

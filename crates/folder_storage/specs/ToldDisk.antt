-- What a disk that tells its calls tells, and what a run over it has to have done. Our own. Read IsDurableBefore first.
use Rattle.std.specs.Prelude.{◌≡◌, ◌⊎◌, ◌+◌, ◌++◌, ℕ, List, [], ◌∷◌, Option, None, Some, Result, Ok, Err, ⊤, map, slice_index}
use Rattle.std.specs.IoError.{error_kind}
use Rattle.std.specs.declared.io.Error.{Error}
use Rattle.std.specs.declared.io.ErrorKind.{ErrorKind}
use Rattle.std.specs.declared.io.ErrorKind.TheVariants.{OutOfMemory}
use Rattle.ids.specs.declared.key.Key.{Key}
use Rattle.folder_storage.specs.Durability.{BeganSyncs, EndedSyncs, Gathered, In, PutObject, PutText, Step, SyncedDirectory, SyncedObject, with_steps}
use Rattle.folder_storage.specs.declared.durability.Directory.TheVariants.{Objects, OfKind}
use Rattle.folder_storage.specs.declared.told_disk.Done.{Done}
use Rattle.folder_storage.specs.declared.told_disk.Done.TheVariants.{Begin, End, Gather, Put, SyncFile, SyncNames, Text}

-- what was done, as a step
abbrev pub step_of : Done → Step
step_of (Put key) = PutObject key
step_of (Gather keys) = Gathered keys.items
step_of (Begin keys) = BeganSyncs keys.items
step_of (SyncFile key) = SyncedObject key
step_of (SyncNames directory) = SyncedDirectory directory
step_of (End is_synced) = EndedSyncs is_synced
step_of (Text text) = PutText text.items

-- what was noted, as steps: each was noted with a number that tells nothing here
abbrev pub steps_of : List (Done × ℕ) → List Step
steps_of noted = map (λ (one : Done × ℕ). step_of one.0) noted

-- a call that may fail counts one; that the syncs ended is told by a call that can't, and counts none
abbrev pub calls_of : Step → ℕ
calls_of (PutObject key) = 1
calls_of (Gathered keys) = 1
calls_of (BeganSyncs keys) = 1
calls_of (SyncedObject key) = 1
calls_of (SyncedDirectory directory) = 1
calls_of (EndedSyncs is_synced) = 0
calls_of (PutText text) = 1

-- how many calls that may fail were done
abbrev pub count_of : List Step → ℕ
count_of [] = 0
count_of (step ∷ steps) = calls_of step + count_of steps

-- how many such calls a disk does in all: those that were noted, and those that are left
abbrev pub total_of : List (Done × ℕ) → (left : ℕ) → ℕ
total_of noted left = count_of (steps_of noted) + left

-- a call that failed wanted memory, or none is left
abbrev pub EndsAt : Option ErrorKind → (left : ℕ) → Type 0
EndsAt None left = ⊤
EndsAt (Some kind) left = (kind ≡ OutOfMemory) ⊎ (left ≡ 0)

-- where a run isn't done, memory was wanting, or all calls were done that the disk does
abbrev pub EndsAfter : {T : Type 0} → (most : ℕ) → List Step → Result T Error → Type 0
EndsAfter most steps (Ok done) = ⊤
EndsAfter most steps (Err failure) = (error_kind failure ≡ OutOfMemory) ⊎ (count_of steps ≡ most)

-- the second was done after the first
abbrev pub Follows : (first second : Step) → List Step → Type 0
Follows first second [] = ⊥
Follows first second (step ∷ steps) = ((first ≡ step) × In second steps) ⊎ Follows first second steps

-- no state text was put
abbrev pub HasNoText : List Step → Type 0
HasNoText [] = ⊤
HasNoText (PutObject key ∷ steps) = HasNoText steps
HasNoText (Gathered keys ∷ steps) = HasNoText steps
HasNoText (BeganSyncs keys ∷ steps) = HasNoText steps
HasNoText (SyncedObject key ∷ steps) = HasNoText steps
HasNoText (SyncedDirectory directory ∷ steps) = HasNoText steps
HasNoText (EndedSyncs is_synced ∷ steps) = HasNoText steps
HasNoText (PutText text ∷ steps) = ⊥

-- after it was put the object's file was synced, and so was its folder, and that of its kind
abbrev pub IsMadeDurable : Key → List Step → Type 0
IsMadeDurable key steps = Follows (PutObject key) (SyncedObject key) steps
    × Follows (PutObject key) (SyncedDirectory (Objects key.kind (slice_index key.id 0))) steps
    × Follows (PutObject key) (SyncedDirectory (OfKind key.kind)) steps

-- each of these objects was put and made durable, then this text was put, and nothing was done after it
pub record IsDurableBefore (keys : List Key) (text : List ℕ) (steps : List Step) : Type 0 where
  pub before : List Step
  pub no_text : HasNoText before
  pub durable : (key : Key) → In key keys → IsMadeDurable key before
  pub last : steps ≡ before ++ PutText text ∷ []

-- that is so where the run is done; where it isn't, no text was put, or that is so too
abbrev pub EndsDurably : {E : Type 0} → List Key → List ℕ → List Step → Result ⊤ E → Type 0
EndsDurably keys text steps (Ok done) = IsDurableBefore keys text steps
EndsDurably keys text steps (Err failure) = HasNoText steps ⊎ IsDurableBefore keys text steps

-- objects were put, and nothing else was done
pub record OnlyPuts (old new : Option (List Step)) : Type 0 where
  pub puts : List Key
  pub steps : new ≡ with_steps old (map PutObject puts)

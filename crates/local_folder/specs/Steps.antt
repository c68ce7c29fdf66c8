-- What the calls of a folder do to the disk, in their order. Our own. Read Step first, then Empties, MovesIn, made, taken and
-- PutsSmall.
-- The system may tell its steps; the one of the runtime tells None.
use Rattle.std.specs.Prelude.{◌≡◌, ◌⊎◌, ◌++◌, ℕ, Bool, true, false, IsTrue, List, [], ◌∷◌, Option, None, Some, Result, Ok, Err, codes, option_map}
use Rattle.tree_model.specs.Path.{PathV, parent_of}

-- what was done: an empty file was made, bytes were appended to the file that was made last, its bytes were made durable,
-- the names in a directory were; an entry got another path, a directory was made, or an entry was taken away
pub data Step : Type 0 where
  Created : PathV → Step
  Wrote : List ℕ → Step
  SyncedFile : Step
  SyncedNames : PathV → Step
  Moved : PathV → PathV → Step
  MadeDirectory : PathV → Step
  Removed : PathV → Step

-- the steps so far and these after them, where they are told
abbrev pub with_steps : Option (List Step) → List Step → Option (List Step)
with_steps told more = option_map (λ steps. steps ++ more) told

-- one step was done; after a failure it may have been done
abbrev pub Does : {T E : Type 0} → Step → Option (List Step) → Option (List Step) → Result T E → Type 0
Does step old new (Ok x) = new ≡ with_steps old (step ∷ [])
Does step old new (Err e) = (new ≡ old) ⊎ (new ≡ with_steps old (step ∷ []))

-- the first list begins the second
abbrev pub IsFront : List Step → List Step → Type 0
IsFront front steps = (rest : List Step) × (steps ≡ front ++ rest)

-- some of the steps were done, from the first on
pub record StopsIn (steps : List Step) (old new : Option (List Step)) : Type 0 where
  pub done : List Step
  pub front : IsFront done steps
  pub told : new ≡ with_steps old done

-- all of the steps were done, and no others; after a failure some of them, from the first on
abbrev pub DoesAll : {T E : Type 0} → List Step → Option (List Step) → Option (List Step) → Result T E → Type 0
DoesAll steps old new (Ok x) = new ≡ with_steps old steps
DoesAll steps old new (Err e) = StopsIn steps old new

-- ---- which step was the last

abbrev pub is_sync : Step → Bool
is_sync SyncedFile = true
is_sync _ = false

abbrev pub has_sync_last : List Step → Bool
has_sync_last [] = false
has_sync_last (step ∷ []) = is_sync step
has_sync_last (step ∷ next ∷ more) = has_sync_last (next ∷ more)

-- by the last step the bytes of the file that was made last were made durable, where the steps are told
abbrev pub ends_in_sync : Option (List Step) → Bool
ends_in_sync None = true
ends_in_sync (Some steps) = has_sync_last steps

-- where they are said to be durable, that was the last step
abbrev pub is_so_synced : Bool → Option (List Step) → Bool
is_so_synced false told = true
is_so_synced true told = ends_in_sync told

-- ---- what a change of a folder does

-- where new bytes are written first: `.seaf-cli.spare` in the folder itself
abbrev pub spare_path : PathV
spare_path = codes ".seaf-cli.spare" ∷ []

-- new bytes begin with none: the spare is made, once one that is there is taken away
abbrev pub Empties : {T E : Type 0} → Option (List Step) → Option (List Step) → Result T E → Type 0
Empties old new result = DoesAll (Created spare_path ∷ []) old new result ⊎ DoesAll (Removed spare_path ∷ Created spare_path ∷ []) old new result

-- a new file takes its path, and its name is durable after
abbrev pub moved_in : PathV → List Step
moved_in file = Moved spare_path file ∷ SyncedNames (parent_of file) ∷ []

-- its bytes are durable before: this was the last step, or it is now the first
abbrev pub MovesIn : {T E : Type 0} → PathV → Option (List Step) → Option (List Step) → Result T E → Type 0
MovesIn file old new result = (IsTrue (ends_in_sync old) × DoesAll (moved_in file) old new result) ⊎ DoesAll (SyncedFile ∷ moved_in file) old new result

-- a directory is made, durably
abbrev pub made : PathV → List Step
made dir = MadeDirectory dir ∷ SyncedNames (parent_of dir) ∷ []

-- a file or an empty directory is taken away, durably
abbrev pub taken : PathV → List Step
taken path = Removed path ∷ SyncedNames (parent_of path) ∷ []

-- a small file takes a name in the folder itself: its bytes are written where new bytes are, and durable before, and its name after
abbrev pub named_small : List ℕ → List Step
named_small name = Moved spare_path (name ∷ []) ∷ SyncedNames [] ∷ []

abbrev pub filled_small : (name bytes : List ℕ) → List Step
filled_small name bytes = Wrote bytes ∷ SyncedFile ∷ named_small name

abbrev pub PutsSmall : {T E : Type 0} → (name bytes : List ℕ) → Option (List Step) → Option (List Step) → Result T E → Type 0
PutsSmall name bytes old new result =
    DoesAll (Created spare_path ∷ filled_small name bytes) old new result ⊎ DoesAll (Removed spare_path ∷ Created spare_path ∷ filled_small name bytes) old new result

-- What a library's folder knows of what may not be durable, and what calls leave of that. Our own. Read Doubts first, then
-- PutsOne, WantsNoMore and ended.
use Rattle.std.specs.Prelude.{◌≡◌, ◌⊎◌, ◌++◌, ℕ, Bool, false, true, List, [], ◌∷◌, Option, None, Some, ⊤, filter, not, option_map, remove, HoldsAt, string_bytes, bytes_eq}
use Rattle.ids.specs.declared.key.Key.{Key}
use Rattle.ids.specs.declared.key.Kind.{Kind}
use Rattle.ids.specs.declared.key.Kind.TheVariants.{Commit, Fs, Block}
use Rattle.object_store.specs.declared.shelf.Slot.{Slot}
use Rattle.object_store.specs.declared.shelf.Slot.TheVariants.{Object, Status}
use Rattle.sha1.specs.Sha1.{sha1}
use Rattle.folder_storage.specs.declared.library_folder.CommitSum.{CommitSum}
use Rattle.folder_storage.specs.declared.library_folder.LibraryFolder.{LibraryFolder}

-- what the next state text has to wait for, or is refused by: of this run and of earlier ones, what was lost, what is in
-- doubt, and where the folder stands while its place isn't durable
pub record Doubts : Type 0 where
  pub commits : List CommitSum
  pub near : List Key
  pub whole : List Key
  pub torn : List Key
  pub has_earlier : Bool
  pub lost : Option Key
  pub is_marked : Bool
  pub is_in_doubt : Bool
  pub is_adrift : Bool
  pub path : List ℕ
  pub home : Option (List ℕ)
  pub above : Option (List ℕ)

abbrev pub doubts_of : {F : Type 0} → LibraryFolder F → Doubts
doubts_of folder = record {
  commits = folder.commits.items;
  near = folder.earlier.near.items;
  whole = folder.earlier.whole.items;
  torn = folder.earlier.torn.items;
  has_earlier = folder.has_earlier;
  lost = folder.lost;
  is_marked = folder.is_marked;
  is_in_doubt = folder.is_in_doubt;
  is_adrift = folder.is_adrift;
  path = string_bytes folder.path;
  home = option_map string_bytes folder.home;
  above = option_map string_bytes folder.above;
}

-- an object that was lost is found again where it is this one, and no other is
abbrev pub FindsAgain : Key → (old new : Option Key) → Type 0
FindsAgain key old new = (old ≡ Some key → new ≡ None) × ((old ≡ Some key → ⊥) → new ≡ old)

-- nothing changes but that
abbrev pub IsFoundAgain : Key → (old new : Doubts) → Type 0
IsFoundAgain key old new = (new ≡ record old { lost = new.lost }) × FindsAgain key old.lost new.lost

-- after a slot was emptied: its object, where it was lost, is wanted no more
abbrev pub WantsNoMore : Slot → (old new : Doubts) → Type 0
WantsNoMore (Object key) old new = IsFoundAgain key old new
WantsNoMore Status old new = new ≡ old

-- the list is as it was, or one key was taken out of it that is this
abbrev pub TakesOut : Key → (old new : List Key) → Type 0
TakesOut key old new = (new ≡ old) ⊎ ((place : ℕ) × HoldsAt (λ other. other ≡ key) old place × (new ≡ remove old place))

-- the commits with other ids
abbrev pub others : List ℕ → List CommitSum → List CommitSum
others id commits = filter (λ commit. not (bytes_eq commit.id id)) commits

-- after a put of these bytes under a key of this kind, with this id: a commit is known by their SHA-1, and by no other
abbrev pub noted : Kind → (id bytes : List ℕ) → List CommitSum → List CommitSum
noted Commit id bytes commits = others id commits ++ record { id = id; sum = sha1 bytes } ∷ []
noted Fs id bytes commits = commits
noted Block id bytes commits = commits

-- the same, unless it was cut short
abbrev pub MayNote : Kind → (id bytes : List ℕ) → (old new : List CommitSum) → Type 0
MayNote kind id bytes old new = (new ≡ old) ⊎ ((new ≡ others id old) ⊎ (new ≡ noted kind id bytes old))

-- after a put of an object, done or not: its commit may be noted; where it is done that is so, the key is no longer one
-- that earlier runs put, and it is found again. Nothing else changes
abbrev pub PutsOne : Key → List ℕ → Bool → (old new : Doubts) → Type 0
PutsOne key bytes true old new = (new ≡ record old { commits = new.commits; whole = new.whole; torn = new.torn; lost = new.lost })
    × (new.commits ≡ noted key.kind key.id bytes old.commits)
    × TakesOut key old.whole new.whole × TakesOut key old.torn new.torn × FindsAgain key old.lost new.lost
PutsOne key bytes false old new = (new ≡ record old { commits = new.commits }) × MayNote key.kind key.id bytes old.commits new.commits

-- the same of a put into a slot. A state text may change all of that
abbrev pub PutsInto : Slot → List ℕ → Bool → (old new : Doubts) → Type 0
PutsInto (Object key) bytes is_done old new = PutsOne key bytes is_done old new
PutsInto Status bytes is_done old new = ⊤

-- after a round of syncs, all done or not: nothing waits for the next text any more, or the folder is in doubt
abbrev pub ended : Bool → Doubts → Doubts
ended true old = record old { commits = []; near = []; whole = []; is_in_doubt = false }
ended false old = record old { is_in_doubt = true }

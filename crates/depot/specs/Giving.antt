-- What a shelf may give after a call on a library, beside what it might give before. Our own. Read GivesBy first, then MayLay and IsLaid. What a
-- turn of a collection may lay stands with the turns.
use Rattle.std.specs.Prelude.{◌≡◌, ◌⊎◌, ℕ, false, true, List, Option, None, Some, Ok, ⊤}
use Rattle.commit_objects.specs.Commit.{commit_of}
use Rattle.commit_objects.specs.Spelling.{text_of as commit_text}
use Rattle.commit_objects.specs.declared.commit.Commit.{Commit}
use Rattle.ids.specs.declared.key.Key.{Key}
use Rattle.ids.specs.declared.key.Kind.{Kind}
use Rattle.ids.specs.declared.key.Kind.TheVariants as kinds
use Rattle.library_rules.specs.declared.entry.Stored.{Stored}
use Rattle.library_state.specs.StateSpelling.{text_of}
use Rattle.library_state.specs.declared.call.Act.{Act}
use Rattle.library_state.specs.declared.call.Act.TheVariants as act
use Rattle.library_state.specs.declared.call.Op.TheVariants as op
use Rattle.library_state.specs.declared.state.LibState.{LibState}
use Rattle.object_graph.specs.Traversal.{is_in}
use Rattle.object_store.specs.Store.{has_other_name, name_refusal}
use Rattle.object_store.specs.declared.shelf.Slot.{Slot}
use Rattle.object_store.specs.declared.shelf.Slot.TheVariants.{Object, Status}

-- what may be given now might be given before, or was laid since
abbrev pub GivesBy : (Slot → Option (List ℕ) → Type 0) → (before now : Slot → Option (List ℕ) → Type 0) → Type 0
GivesBy laid before now = (slot : Slot) (given : Option (List ℕ)) → now slot given → before slot given ⊎ laid slot given

-- ---- what is laid

-- the text of a state of the library of this id, into the status slot
pub record IsOwnText (lib : List ℕ) (slot : Slot) (given : Option (List ℕ)) : Type 0 where
  pub state : LibState
  pub own : state.lib ≡ lib
  pub at : slot ≡ Status
  pub text : given ≡ Some (text_of state)

-- these bytes under this key, a name that they don't contradict
pub record IsObject (key : Key) (bytes : List ℕ) (slot : Slot) (given : Option (List ℕ)) : Type 0 where
  pub at : slot ≡ Object key
  pub is : given ≡ Some bytes
  pub named : has_other_name key bytes ≡ false

-- what a put lays under an id, which no SHA-1 tells of a commit: bytes that are read as a commit of this id
abbrev pub IsReadAs : Kind → List ℕ → List ℕ → Type 0
IsReadAs kinds.Commit id bytes = (commit : Commit) × (commit_of bytes ≡ Ok commit) × (commit.id ≡ id)
IsReadAs kinds.Fs id bytes = ⊤
IsReadAs kinds.Block id bytes = ⊤

-- these bytes under this key, a name that is theirs
abbrev pub IsPut : Key → List ℕ → Slot → Option (List ℕ) → Type 0
IsPut key bytes slot given = IsReadAs key.kind key.id bytes × IsObject key bytes slot given

-- what an update lays under an id: no block, and of a commit its text under its own id
abbrev pub IsLaidAs : Kind → List ℕ → List ℕ → Type 0
IsLaidAs kinds.Commit id bytes = (commit : Commit) × (bytes ≡ commit_text commit) × (commit.id ≡ id)
IsLaidAs kinds.Fs id bytes = ⊤
IsLaidAs kinds.Block id bytes = ⊥

-- an object that its name doesn't forbid: a file or directory under its own name, or a commit under its own id
pub record IsNamedObject (slot : Slot) (given : Option (List ℕ)) : Type 0 where
  pub key : Key
  pub bytes : List ℕ
  pub at : slot ≡ Object key
  pub is : given ≡ Some bytes
  pub named : name_refusal key bytes ≡ None
  pub laid_as : IsLaidAs key.kind key.id bytes

-- in an update: files, directories and commits under their own names, and a text of the library
abbrev pub IsOfUpdate : List ℕ → Slot → Option (List ℕ) → Type 0
IsOfUpdate lib slot given = IsNamedObject slot given ⊎ IsOwnText lib slot given

-- what a call on the library of this id may lay onto its shelf: the object that is put, under its own name; in an update files,
-- directories and commits under their own names; and a text of the library, where the call may change its state. Every other lays
-- nothing
abbrev pub MayLay : List ℕ → Act → Slot → Option (List ℕ) → Type 0
MayLay lib (act.Check op.Download) slot given = ⊥
MayLay lib (act.Check op.Upload) slot given = IsOwnText lib slot given
MayLay lib act.Head slot given = ⊥
MayLay lib (act.Get key) slot given = ⊥
MayLay lib (act.Put key bytes) slot given = IsPut key bytes slot given
MayLay lib (act.Missing k ids) slot given = ⊥
MayLay lib (act.Update pushed) slot given = IsOfUpdate lib slot given
MayLay lib (act.Limit days) slot given = IsOwnText lib slot given
MayLay lib (act.Ids server client) slot given = ⊥

-- that nothing lies under a key, or under one of these
abbrev pub IsNothing : Slot → Option (List ℕ) → Type 0
IsNothing slot given = (key : Key) × (slot ≡ Object key) × (given ≡ None)

abbrev pub IsGone : List Key → Slot → Option (List ℕ) → Type 0
IsGone keys slot given = (key : Key) × (is_in keys key ≡ true) × (slot ≡ Object key) × (given ≡ None)

-- what is laid as these objects of the library of this id leave: its text before them, and then nothing in their slots
abbrev pub IsOfSweep : List ℕ → List Key → Slot → Option (List ℕ) → Type 0
IsOfSweep lib keys slot given = IsOwnText lib slot given ⊎ IsGone keys slot given

-- a commit of this id: bytes that are read as one, or the text of one
abbrev pub IsCommitOf : List ℕ → List ℕ → Type 0
IsCommitOf id bytes = (commit : Commit) × ((commit_of bytes ≡ Ok commit) ⊎ (bytes ≡ commit_text commit)) × (commit.id ≡ id)

abbrev pub IsNamedAs : Kind → List ℕ → List ℕ → Type 0
IsNamedAs kinds.Commit id bytes = IsCommitOf id bytes
IsNamedAs kinds.Fs id bytes = ⊤
IsNamedAs kinds.Block id bytes = ⊤

-- what calls and turns on the library of this id may lay, by which these keys leave: a text of the library, an object under its own
-- name, and nothing under a key that left
abbrev pub IsLaid : List ℕ → List Key → Slot → Option (List ℕ) → Type 0
IsLaid lib keys slot given =
    IsOwnText lib slot given ⊎ ((key : Key) × (bytes : List ℕ) × IsNamedAs key.kind key.id bytes × IsObject key bytes slot given) ⊎ IsGone keys slot given

-- what the making of a library lays: its opening commit, and the text of its first state
abbrev pub IsOfMaking : Stored → LibState → Slot → Option (List ℕ) → Type 0
IsOfMaking x state slot given = ((slot ≡ Object x.key) × (given ≡ Some x.bytes)) ⊎ ((slot ≡ Status) × (given ≡ Some (text_of state)))

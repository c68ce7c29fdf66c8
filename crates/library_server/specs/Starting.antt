-- A library that a command starts: which it opens, and why it doesn't. Our own. Read OpensTo first, then opening_refusal,
-- OpensSo and IsNotBrought.
use Rattle.std.specs.Prelude.{◌≡◌, ◌≢◌, ◌⊎◌, ℕ, Bool, false, if◌then◌else◌, List, Option, None, Some, option_map, IsTrue, Result, Ok, Err, codes, replicate, ⊤}
use Rattle.std.specs.FinMap as map
use Rattle.std.specs.Str.{bytes_eq}
use Rattle.ids.specs.Key.{Objects}
use Rattle.library_state.specs.StateText.{state_of as read_state}
use Rattle.library_state.specs.StateSpelling.{text_of}
use Rattle.library_state.specs.declared.state.LibState.{LibState}
use Rattle.library_state.specs.declared.state_fault.StateKey.{StateKey}
use Rattle.depot.specs.DepotView.{DepotView, library, state_of}
use Rattle.depot.specs.Start.{IsGiven, IsNextOf, IsStartFault, IsStartFree, LeftUnopenedBy, next_opening, is_start_counted, state_refusal}
use Rattle.depot.specs.declared.error.StartFault.{StartFault}
use Rattle.depot.specs.declared.error.StartFault.TheVariants as start
use Rattle.folder_storage.specs.Ground.{Absent, Kept, Standing}
use Rattle.library_rules.specs.LibraryState.{State}
use Rattle.library_rules.specs.Recovery.{opened}
use Rattle.object_store.specs.Shelf.{Contents, is_counted}
use Rattle.object_store.specs.StoreView.{StoreView}
use Rattle.object_store.specs.declared.shelf.Slot.{Slot}
use Rattle.object_store.specs.declared.shelf.Slot.TheVariants.{Object, Status}
use Rattle.server_words.specs.declared.command.Location.{Location}
use Rattle.server_words.specs.declared.command.Location.TheVariants.{Memory, Folder}
use Rattle.library_server.specs.Making.{IsNotMade, RefusesNew, first_of, is_unmade_counted, library_of, new_commit}
use Rattle.library_server.specs.declared.making.NewLibrary.{NewLibrary}
use Rattle.library_server.specs.declared.not_done.NotBrought.{NotBrought}
use Rattle.library_server.specs.declared.not_done.NotBrought.TheVariants as unbrought
use Rattle.library_server.specs.declared.not_done.NotStarted.{NotStarted}
use Rattle.library_server.specs.declared.not_done.NotStarted.TheVariants as unstarted

-- what a command that names a library in memory makes first where there is none: its user is `me`, with a secret of
-- forty `a`
abbrev pub memory_library : List ℕ → NewLibrary
memory_library lib = record { lib = lib; name = codes "memory"; user = codes "me"; secret = replicate 20 170 }

-- the library is not there, and its place is memory
abbrev pub IsMemory : Location → Type 0
IsMemory Memory = ⊤
IsMemory (Folder path) = ⊥

abbrev pub IsFolder : Location → Type 0
IsFolder Memory = ⊥
IsFolder (Folder path) = ⊤

-- the library of this id that is opened from such contents: that of the text, with all objects that lie there, no
-- collection running, and the next opening number
pub record IsOpenedFrom (lib : List ℕ) (held : Contents) (s : State) : Type 0 where
  pub text : List ℕ
  pub found : LibState
  pub count : ℕ
  pub there : held.status ≡ Some text
  pub reads : read_state text ≡ Ok found
  pub named : found.lib ≡ lib
  pub state : s ≡ opened held.objects count (library found count held.objects)

-- such a library was opened
abbrev pub OpensFrom : {S : Type 0} → (S → Option Contents) → (S → ℕ) → List ℕ → Contents → DepotView S → Type 0
OpensFrom contents faults lib held depot = (s : State) × (state_of contents faults depot ≡ Some s) × IsOpenedFrom lib held s

-- the library that a command opens, as it stands: the one that is kept there, opened once more; or, in memory where there
-- is none, one that is new, which is used as it was made
pub data OpensTo (location : Location) (lib : List ℕ) (shows : ℕ → Type 0) (standing : Standing) (s : State) : Type 0 where
  reopened : (held : Contents) → standing ≡ Kept held → IsOpenedFrom lib held s → OpensTo location lib shows standing s
  made : IsMemory location → standing ≡ Absent → (moment count : ℕ) → shows moment → s ≡ library_of (memory_library lib) moment count
      → OpensTo location lib shows standing s

-- the same of the state alone, over any ground: that of a text of the named library, which this library may give as it is
-- handed out, with the next opening number; or, in memory, that of the new library
pub data IsOpenedState (gives : Slot → Option (List ℕ) → Type 0) (location : Location) (lib : List ℕ) (shows : ℕ → Type 0) (state : LibState)
    : Type 0 where
  of_text : IsNextOf gives state → state.lib ≡ lib → IsOpenedState gives location lib shows state
  of_new : IsMemory location → (moment : ℕ) → shows moment → state ≡ first_of (memory_library lib) moment → IsOpenedState gives location lib shows state

-- how many objects a library has as it is opened: those that lie there, or the commit of one that is made
abbrev pub objects_in : Standing → ℕ
objects_in (Kept held) = map.len held.objects
objects_in other = 1

-- what was opened, without the count of its objects
abbrev pub without_count : {A E : Type 0} → Result (A × ℕ) E → Result A E
without_count (Ok opened) = Ok opened.0
without_count (Err why) = Err why

-- what the opening of a library lays onto its shelf: the text of the state that was opened, and, where that is the first of
-- a library that was made in memory, the opening commit of the same moment
pub data IsOfOpening (location : Location) (lib : List ℕ) (shows : ℕ → Type 0) (state : LibState) (slot : Slot) (given : Option (List ℕ)) : Type 0 where
  laid_text : slot ≡ Status → given ≡ Some (text_of state) → IsOfOpening location lib shows state slot given
  laid_commit : IsMemory location → (moment : ℕ) → shows moment → state ≡ first_of (memory_library lib) moment
      → slot ≡ Object (new_commit (memory_library lib) moment).key → given ≡ Some (new_commit (memory_library lib) moment).bytes
      → IsOfOpening location lib shows state slot given

-- ---- why no library is opened

-- a library's state isn't opened under this id: it is another's, or it can't be opened
abbrev pub named_refusal : List ℕ → Objects → LibState → Option NotStarted
named_refusal lib objects state =
    if bytes_eq state.lib lib then option_map unstarted.Fault (state_refusal objects state)
    else Some unstarted.Other

abbrev pub read_refusal : List ℕ → Objects → Result LibState StateKey → Option NotStarted
read_refusal lib objects (Err key) = Some (unstarted.Fault (start.BadState key))
read_refusal lib objects (Ok state) = named_refusal lib objects state

-- why what lies on a shelf isn't opened under this id: there is no text, it is no state text, it is another library's, or
-- its state can't be opened
abbrev pub opening_refusal : List ℕ → Objects → Option (List ℕ) → Option NotStarted
opening_refusal lib objects None = Some (unstarted.Fault start.NoState)
opening_refusal lib objects (Some text) = read_refusal lib objects (read_state text)

-- the faults that may come in any other's place
abbrev pub IsUnstartedFree : Objects → NotStarted → Type 0
IsUnstartedFree objects (unstarted.Fault fault) = IsStartFree objects fault
IsUnstartedFree objects unstarted.Other = ⊥

-- over told contents: the refusal is the one that is due, or a free one, and none comes where none is due
abbrev pub IsDueOpening : List ℕ → Objects → Option (List ℕ) → NotStarted → Type 0
IsDueOpening lib objects status why = (opening_refusal lib objects status ≡ Some why) ⊎ IsUnstartedFree objects why

abbrev pub OpensAs : {T : Type 0} → List ℕ → Objects → Option (List ℕ) → Result T NotStarted → Type 0
OpensAs lib objects status (Ok x) = opening_refusal lib objects status ≡ None
OpensAs lib objects status (Err why) = IsDueOpening lib objects status why

-- the text is that of this library
pub record IsTextOf (lib : List ℕ) (status : Option (List ℕ)) : Type 0 where
  pub text : List ℕ
  pub found : LibState
  pub there : status ≡ Some text
  pub reads : read_state text ≡ Ok found
  pub named : found.lib ≡ lib

-- the shelf may give the text of another library
pub record GivesOther (may_give : Slot → Option (List ℕ) → Type 0) (lib : List ℕ) : Type 0 where
  pub state : LibState
  pub given : IsGiven may_give state
  pub other : state.lib ≢ lib

-- the cause of each refusal, over any shelf, in what it may give as it is handed in
abbrev pub IsNotStarted : (Slot → Option (List ℕ) → Type 0) → List ℕ → NotStarted → Type 0
IsNotStarted may_give lib (unstarted.Fault why) = IsStartFault may_give why
IsNotStarted may_give lib unstarted.Other = GivesOther may_give lib

-- the failure that the storage counts
abbrev pub is_unstarted_counted : NotStarted → Bool
is_unstarted_counted (unstarted.Fault why) = is_start_counted why
is_unstarted_counted unstarted.Other = false

-- what lies in the slot where a library could not be opened: what lay there, or, where the storage failed, the text with the
-- next opening number
abbrev pub MayRaise : StartFault → Contents → Contents → Type 0
MayRaise why held h = (h.status ≡ held.status)
    ⊎ (IsTrue (is_start_counted why) × (text : List ℕ) × (found : LibState) × (held.status ≡ Some text) × (read_state text ≡ Ok found) × (h.status ≡ Some (text_of (next_opening found))))

-- a library that could not be opened has just the objects that it had
abbrev pub LeavesOpened : StartFault → Contents → Option Contents → Type 0
LeavesOpened why held now = (h : Contents) × (now ≡ Some h) × (h.objects ≡ held.objects) × MayRaise why held h

-- another library stays as it is
abbrev pub LeavesShelf : NotStarted → Contents → Option Contents → Type 0
LeavesShelf (unstarted.Fault why) held now = LeavesOpened why held now
LeavesShelf unstarted.Other held now = now ≡ Some held

-- the same of a store; where the text is the named library's the refusal is not that of another
abbrev pub LeftUnstarted : {S : Type 0} → (S → Option Contents) → (given store : StoreView S) → NotStarted → Type 0
LeftUnstarted contents given store (unstarted.Fault why) = LeftUnopenedBy contents given store why
LeftUnstarted contents given store unstarted.Other = ⊥

abbrev pub LeavesKept : NotStarted → Contents → Option Standing → Type 0
LeavesKept why held after = (h : Contents) × (after ≡ Some (Kept h)) × LeavesShelf why held (Some h)

-- over told libraries, as one stood before and stands after, why none is opened. A failure of the storage and want of
-- memory may come in any other's place
abbrev pub RefusesOpening : Location → List ℕ → (ℕ → Type 0) → Standing → NotBrought → Option Standing → Type 0
RefusesOpening location lib shows standing (unbrought.Storage failed) after = after ≡ Some standing
RefusesOpening location lib shows standing unbrought.Absent after = IsFolder location × (standing ≡ Absent) × (after ≡ Some standing)
RefusesOpening location lib shows standing (unbrought.Refused why) after =
    (held : Contents) × (standing ≡ Kept held) × IsDueOpening lib held.objects held.status why × LeavesKept why held after
RefusesOpening location lib shows standing (unbrought.Unmade why) after =
    IsMemory location × (standing ≡ Absent) × (moment : ℕ) × shows moment × RefusesNew (memory_library lib) moment standing why after

-- over told libraries: what is opened, or that refusal
abbrev pub OpensSo : {S : Type 0} → (S → Option Contents) → (S → ℕ) → Location → List ℕ → (ℕ → Type 0) → Standing → Result (DepotView S) NotBrought → Option Standing → Type 0
OpensSo contents faults location lib shows standing (Ok depot) after = (s : State) × (state_of contents faults depot ≡ Some s) × OpensTo location lib shows standing s
OpensSo contents faults location lib shows standing (Err why) after = RefusesOpening location lib shows standing why after

-- the cause of each refusal, over any ground, in what the named library may give as it is handed out
abbrev pub IsNotBrought : (Slot → Option (List ℕ) → Type 0) → Location → List ℕ → (ℕ → Type 0) → NotBrought → Type 0
IsNotBrought gives location lib shows (unbrought.Storage failed) = ⊤
IsNotBrought gives location lib shows unbrought.Absent = IsFolder location
IsNotBrought gives location lib shows (unbrought.Refused why) = IsNotStarted gives lib why
IsNotBrought gives location lib shows (unbrought.Unmade why) = IsMemory location × (moment : ℕ) × shows moment × IsNotMade gives (memory_library lib) moment why

-- the failure that the storage counts
abbrev pub is_unbrought_counted : NotBrought → Bool
is_unbrought_counted (unbrought.Storage failed) = is_counted failed
is_unbrought_counted unbrought.Absent = false
is_unbrought_counted (unbrought.Refused why) = is_unstarted_counted why
is_unbrought_counted (unbrought.Unmade why) = is_unmade_counted why

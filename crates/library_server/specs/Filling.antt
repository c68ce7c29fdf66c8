-- The command that fills a new library: what it leaves, why it stops, and the line. Our own. Read IsOwned and ComesOf first, then IsStopped and
-- MakesFiles. Read before: IsFilled and WasHead of `generated_library`; IsDone and IsTaken of `sync_calls`; ComesBy of `depot`; IsBrought of Bringing, objects_in of
-- Starting, ComesBack of Standing, IsUnbrought of Connections.
use Rattle.std.specs.Prelude.{◌≡◌, ◌≢◌, ◌⊎◌, ◌<◌, ◌≤◌, ◌==◌, if◌then◌else◌, ℕ, Bool, true, false, List, [], ◌∷◌, length, Option, None, Some, Result, Ok, Err, ⊤}
use Rattle.std.specs.FinMap as map
use Rattle.ids.specs.declared.key.Key.{Key}
use Rattle.depot.specs.DepotView.{DepotView, IsGood, state_of}
use Rattle.depot.specs.Story.{ComesBy}
use Rattle.depot.specs.Tokens.{token_shown}
use Rattle.depot.specs.declared.turn.Turn.TheVariants as turn
use Rattle.folder_storage.specs.Ground.{MayGive, Standing, Standings, count_sum}
use Rattle.generated_library.specs.Filled.{IsFilled}
use Rattle.generated_library.specs.Generated.{bytes_made, changed_from, files_from, tree_of}
use Rattle.generated_library.specs.Leading.{WasHead, call_of}
use Rattle.generated_library.specs.Stopping.{IsOfFilling, IsOfOneName}
use Rattle.generated_library.specs.declared.asking.NotFilled.{NotFilled}
use Rattle.generated_library.specs.declared.asking.NotFilled.TheVariants as unfilled
use Rattle.generated_library.specs.declared.filling.Filled.{Filled}
use Rattle.library_rules.specs.LibraryState.{State, head_of, last_number}
use Rattle.library_state.specs.declared.call.Act.{Act}
use Rattle.library_state.specs.declared.refusal.Refusal.{Refusal}
use Rattle.library_state.specs.declared.refusal.Refusal.TheVariants as refusal
use Rattle.library_state.specs.declared.reply.Reply.{Reply}
use Rattle.library_state.specs.declared.reply.Reply.TheVariants as reply
use Rattle.library_state.specs.declared.right.Right.TheVariants as right
use Rattle.library_state.specs.declared.token.Token.{Token}
use Rattle.object_store.specs.Shelf.{Contents}
use Rattle.object_store.specs.declared.shelf.Slot.{Slot}
use Rattle.server_words.specs.Spelling.{location_text}
use Rattle.server_words.specs.declared.command.Location.{Location}
use Rattle.server_words.specs.declared.fault.Fault.{Fault}
use Rattle.server_words.specs.declared.fault.Fault.TheVariants as fault
use Rattle.server_words.specs.declared.line.Line.{Line}
use Rattle.server_words.specs.declared.line.Line.TheVariants as line
use Rattle.sync_calls.specs.Collecting.{EndsSo, IsTaken, OneTurn, told as told_number}
use Rattle.sync_calls.specs.Making.{new_shown}
use Rattle.sync_calls.specs.Operations.{Called, IsDone}
use Rattle.sync_calls.specs.Shown.{LibraryPass, Shown, shown_of}
use Rattle.sync_calls.specs.declared.collecting.Collected.TheVariants as collected
use Rattle.turnstile.specs.Lists.{Has}
use Rattle.turnstile.specs.PassView.{book_of, drawn_of, seen_of, start_of, turns_of}
use Rattle.turnstile.specs.Rule.{most_turns}
use Rattle.library_server.specs.Bringing.{IsBrought}
use Rattle.library_server.specs.Connections.{IsUnbrought}
use Rattle.library_server.specs.Making.{RoseWhere}
use Rattle.library_server.specs.Port.{fault_of_unserved}
use Rattle.library_server.specs.Standing.{ComesBack, GroundView}
use Rattle.library_server.specs.Starting.{objects_in}
use Rattle.library_server.specs.declared.not_done.NotBrought.{NotBrought}

-- ---- faults

-- a refusal of a call, as it is printed, where so many collections were begun of the library that comes out. Spent is told as `worn` exactly where no
-- other can begin of it. A lock of which all 2^61 turns are taken, which the filling of so few files can't come to, and a refusal that no filling meets
-- are told as want of memory, which may always come
abbrev pub fault_of_refusal : (collection : ℕ) → Refusal → Fault
fault_of_refusal collection (refusal.Incomplete key) = fault.Incomplete key
fault_of_refusal collection (refusal.Unreadable key) = fault.Unreadable key
fault_of_refusal collection (refusal.WrongKind id) = fault.WrongKind id
fault_of_refusal collection (refusal.WrongSize id) = fault.WrongSize id
fault_of_refusal collection (refusal.TooDeep path) = fault.TooDeep
fault_of_refusal collection (refusal.TooMany count) = fault.TooMany
fault_of_refusal collection (refusal.Damaged want got) = fault.Damaged want
fault_of_refusal collection (refusal.Taken id) = fault.Taken id
fault_of_refusal collection refusal.Store = fault.Store
fault_of_refusal collection refusal.Spent = if collection == last_number then fault.Worn else fault.NoMemory
fault_of_refusal collection other = fault.NoMemory

abbrev pub fault_of_not_filled : (collection : ℕ) → NotFilled → Fault
fault_of_not_filled collection (unfilled.Refused why) = fault_of_refusal collection why
fault_of_not_filled collection (unfilled.Taken id) = fault.Taken id
fault_of_not_filled collection unfilled.NoMemory = fault.NoMemory

-- what came of a filling, with the fault that is printed
abbrev pub told_of : (collection : ℕ) → Result Filled NotFilled → Result Filled Fault
told_of collection (Ok what) = Ok what
told_of collection (Err why) = Err (fault_of_not_filled collection why)

-- the failure that the storage counts
abbrev pub is_unfilled_counted : Result Filled Fault → Bool
is_unfilled_counted (Err fault.Store) = true
is_unfilled_counted other = false

-- ---- how a filling ends

module _ {S : Type 0} (contents : S → Option Contents) (may_give : S → Slot → Option (List ℕ) → Type 0) (texts faults : S → ℕ) (shows : ℕ → Type 0) (secret : List ℕ) where
  -- this call of the secret, at a moment that the clock shows, is the last thing that was asked of the library through this pass, and was answered so
  pub record IsLastAnswer (a : Act) (r : Reply) (pass : LibraryPass S) : Type 0 where
    pub before : Shown S
    pub place : ℕ
    pub moment : ℕ
    pub shown : shows moment
    pub done : IsDone contents may_give texts faults before place (Called (call_of (Some secret) a) moment r) (shown_of pass)

  -- or a turn of a collection is, and was refused so
  pub record IsLastTurn (why : Refusal) (pass : LibraryPass S) : Type 0 where
    pub before : Shown S
    pub goal : Option ℕ
    pub one : OneTurn
    pub keys : List Key
    pub taken : IsTaken contents may_give texts faults shows before goal one (shown_of pass)
    pub is : one.turn ≡ turn.Refused why keys

  -- the library refused so the last call, which is one of a filling, or the last turn; or the last ticket of its lock was drawn, as the pass has read.
  -- No call of a filling is refused as Spent (MayAnswer of `depot`), and a turn only where a collection would follow the last one (MayRefuseTurn)
  pub data IsLastRefused (why : Refusal) (pass : LibraryPass S) : Type 0 where
    of_call : (a : Act) → IsOfFilling a → IsLastAnswer a (reply.Refused why) pass → IsLastRefused why pass
    of_turn : IsLastTurn why pass → IsLastRefused why pass
    of_lock : drawn_of pass ≡ most_turns → why ≡ refusal.Spent → IsLastRefused why pass

  -- a collection was taken to its end, as the last thing, in these turns; it told that so many objects left, which are those of its turns
  pub record IsLastCollection (removed : ℕ) (pass : LibraryPass S) : Type 0 where
    pub before : Shown S
    pub number : ℕ
    pub turns : List OneTurn
    pub taken : ℕ
    pub ends : EndsSo contents may_give texts faults shows before (collected.Done number removed taken) turns (shown_of pass) (drawn_of pass)

  -- a filling stops for what was asked of the library last; or for a clash of names of a tree that it pushes; or there is no memory
  abbrev pub IsStopped : (count number : ℕ) → NotFilled → LibraryPass S → Type 0
  IsStopped count number (unfilled.Refused why) pass = IsLastRefused why pass
  IsStopped count number (unfilled.Taken id) pass = (moment : ℕ) × shows moment × IsOfOneName count number moment id
  IsStopped count number unfilled.NoMemory pass = ⊤

-- ---- the library that is filled

-- the first token is an owner's, with this secret; or with some
abbrev pub IsOwnedBy : List Token → List ℕ → Type 0
IsOwnedBy tokens secret = token_shown tokens 0 ≡ Some (secret, right.Owner)

abbrev pub IsOwned : List Token → Type 0
IsOwned tokens = (secret : List ℕ) × IsOwnedBy tokens secret

-- the numbers that the line tells of the head are those of the generated tree, at a moment that the clock shows
abbrev pub IsNumbered : (ℕ → Type 0) → (count number : ℕ) → Filled → Type 0
IsNumbered shows count number filled = (moment : ℕ) × shows moment
    × (filled.paths ≡ map.len (tree_of moment (changed_from 0 (files_from count number)))) × (filled.bytes ≡ bytes_made count number)

-- calls and turns led from one library to another: a pass to it saw all their changes, and made each; and it read of no more turns of the lock than
-- it took
pub record LeadsOut {S : Type 0} (contents : S → Option Contents) (may_give : S → Slot → Option (List ℕ) → Type 0) (texts faults : S → ℕ)
    (depot : DepotView S) (pass : LibraryPass S) (after : DepotView S) : Type 0 where
  pub begins : start_of pass ≡ Some depot
  pub comes : ComesBy contents may_give texts faults depot (seen_of pass) after
  pub each : (place : ℕ) → place < length (seen_of pass) → Has place (book_of pass)
  pub drawn : drawn_of pass ≤ turns_of pass

-- what a library is that was filled where it stood, through a pass to it; and how many objects were stored as its collection began: those that are left, and those that left
pub record IsFilledFrom {S : Type 0} (contents : S → Option Contents) (faults : S → ℕ) (shows : ℕ → Type 0) (count number : ℕ)
    (s : State) (depot after : DepotView S) (pass : LibraryPass S) (what : Filled) (stored : ℕ) : Type 0 where
  pub t : State
  pub told : state_of contents faults after ≡ Some t
  pub filled : IsFilled (WasHead (new_shown depot ∷ []) (shown_of pass ∷ [])) shows count number (head_of depot.state.kept) what s t
  pub size : stored ≡ told_number (map.len filled.before)
  pub sum : stored ≡ count_sum (map.len t.objects) what.removed

module _ {S : Type 0} (contents : S → Option Contents) (may_give : S → Slot → Option (List ℕ) → Type 0) (texts faults : S → ℕ) (shows : ℕ → Type 0) (count number : ℕ) where
  -- it was filled, as the numbers tell, with a collection at the end, and as stored is told what the library still knows, and what left; where
  -- it is told and no collection ran it is what was filled; or something stopped that; or there was no memory to begin, and no call was made
  pub data Fills (secret : List ℕ) (depot after : DepotView S) (stored : ℕ) (filled : Result Filled Fault) : Type 0 where
    whole : (pass : LibraryPass S) → LeadsOut contents may_give texts faults depot pass after → (what : Filled) → filled ≡ Ok what → IsNumbered shows count number what
        → IsLastCollection contents may_give texts faults shows secret what.removed pass → stored ≡ count_sum (map.len after.store.index) what.removed
        → ((s : State) → state_of contents faults depot ≡ Some s → s.running ≡ None → IsFilledFrom contents faults shows count number s depot after pass what stored)
        → Fills secret depot after stored filled
    stopped : (pass : LibraryPass S) → LeadsOut contents may_give texts faults depot pass after → (why : NotFilled) → filled ≡ Err (fault_of_not_filled after.state.collection why)
        → IsStopped contents may_give texts faults shows secret count number why pass → Fills secret depot after stored filled
    no_room : ComesBy contents may_give texts faults depot [] after → filled ≡ Err fault.NoMemory → Fills secret depot after stored filled

  -- what came of a library that has so many objects: one with one object, whose first token is an owner's, was to be filled; any other is as it was
  pub data ComesOf (depot : DepotView S) (objects : ℕ) (after : DepotView S) (stored : ℕ) (filled : Result Filled Fault) : Type 0 where
    new : objects ≡ 1 → (secret : List ℕ) → IsOwnedBy depot.state.tokens secret → Fills secret depot after stored filled → ComesOf depot objects after stored filled
    exists : (objects ≢ 1) ⊎ (IsOwned depot.state.tokens → ⊥) → after ≡ depot → filled ≡ Err fault.LibraryExists → ComesOf depot objects after stored filled

-- ---- all of it

-- the line
abbrev pub filled_line : Result Filled Fault → ℕ → Line
filled_line (Ok what) stored = line.Made what.paths what.bytes stored what.removed
filled_line (Err why) stored = line.Fault why

-- the library that a command names was started, and has so many objects
pub record IsOpenedHere {S : Type 0} (contents : S → Option Contents) (may_give : S → Slot → Option (List ℕ) → Type 0) (faults : S → ℕ) (gives : MayGive)
    (location : Location) (lib : List ℕ) (shows : ℕ → Type 0) (stands : Standings) (depot : DepotView S) (objects : ℕ) : Type 0 where
  pub brought : IsBrought contents may_give faults gives location shows stands lib depot
  pub size : (standing : Standing) → stands (location_text location) lib ≡ Some standing → objects ≡ objects_in standing

-- it was opened, filled where it is new, and is back, and the line tells that; the storage's count rose where the line tells its failure; or it
-- wasn't opened, which is told as of a port
pub data MakesFiles {S : Type 0} (contents : S → Option Contents) (may_give : S → Slot → Option (List ℕ) → Type 0) (texts faults : S → ℕ) (gives : MayGive)
    (location : Location) (lib : List ℕ) (count number : ℕ) (shows : ℕ → Type 0) (old new : GroundView) (told : Line) : Type 0 where
  opened : (depot after : DepotView S) (objects stored : ℕ) (filled : Result Filled Fault) → IsOpenedHere contents may_give faults gives location lib shows old.stands depot objects
      → ComesOf contents may_give texts faults shows count number depot objects after stored filled
      → ComesBack old.stands new.stands (location_text location) lib (contents after.store.shelf) → IsGood contents faults after
      → RoseWhere (is_unfilled_counted filled) old.faults new.faults
      → told ≡ filled_line filled stored → MakesFiles contents may_give texts faults gives location lib count number shows old new told
  not_opened : (why : NotBrought) → IsUnbrought contents (gives (location_text location) lib) location lib shows old new why
      → told ≡ line.Fault (fault_of_unserved why) → MakesFiles contents may_give texts faults gives location lib count number shows old new told

-- ---- for private clauses

-- so many objects are known of it, and that many are left, where that is told
pub record IsLeft {S : Type 0} (contents : S → Option Contents) (faults : S → ℕ) (after : DepotView S) (left : ℕ) : Type 0 where
  pub known : left ≡ map.len after.store.index
  pub told : (t : State) → state_of contents faults after ≡ Some t → left ≡ map.len t.objects

-- how many were stored as a collection began that left so many
abbrev pub stored_by : Result Filled Fault → ℕ → ℕ
stored_by (Ok what) left = count_sum left what.removed
stored_by (Err why) left = left

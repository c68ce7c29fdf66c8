-- How the state text and an object come onto the shelf. Our own. Read Writes first, then RewritesSo.
use Rattle.std.specs.Prelude.{◌≡◌, ◌≢◌, ◌⊎◌, ℕ, Bool, true, false, if◌then◌else◌, List, Option, Some, option_map, Result, Ok, Err, IfSome, ⊤}
use Rattle.ids.specs.Key.{Objects}
use Rattle.ids.specs.ObjectId.{nil}
use Rattle.commit_objects.specs.declared.commit.Commit.{Commit}
use Rattle.library_rules.specs.Changes.{put_new}
use Rattle.library_rules.specs.declared.entry.Stored.{Stored}
use Rattle.library_state.specs.ProperState.{IsProper}
use Rattle.library_state.specs.StateSpelling.{text_of}
use Rattle.library_state.specs.StateText.{state_of as read_state}
use Rattle.library_state.specs.declared.state.LibState.{LibState}
use Rattle.object_store.specs.declared.error.StoreFault.{StoreFault}
use Rattle.object_store.specs.declared.error.StoreFault.TheVariants.{Taken, Wrong, Damaged, Shelf, NoMemory}

-- what the slot holds, where it is told
abbrev pub Slot : Type 0
Slot = Option (Option (List ℕ))

-- the slot with the text of a state
abbrev pub written : LibState → Slot → Slot
written state slot = option_map (λ _. Some (text_of state)) slot

-- the text of a proper state is read as it
abbrev pub ReadsBack : LibState → Type 0
ReadsBack state = IsProper state → read_state (text_of state) ≡ Ok state

-- the slot holds the text of a state, where it is told, and the text is read as that state
pub record IsWritten (state : LibState) (old new : Slot) : Type 0 where
  pub text : new ≡ written state old
  pub reads : ReadsBack state

-- after a write the slot holds the text; after a failure of the shelf that or what it held; after want of memory what it
-- held; and nothing else comes
abbrev pub Writes : LibState → Slot → Slot → Result ⊤ StoreFault → Type 0
Writes state old new (Ok done) = IsWritten state old new
Writes state old new (Err Shelf) = (new ≡ old) ⊎ IsWritten state old new
Writes state old new (Err NoMemory) = new ≡ old
Writes state old new (Err (Taken id)) = ⊥
Writes state old new (Err (Wrong id)) = ⊥
Writes state old new (Err (Damaged want got)) = ⊥

-- after a failure of the shelf it is open which text stands
abbrev pub leaves_open : Result ⊤ StoreFault → Bool
leaves_open (Ok done) = false
leaves_open (Err Shelf) = true
leaves_open (Err NoMemory) = false
leaves_open (Err (Taken id)) = false
leaves_open (Err (Wrong id)) = false
leaves_open (Err (Damaged want got)) = false

-- what a write of the present text leaves, where one failed before
abbrev pub SettlesSo : Bool → LibState → Slot → Slot → Result ⊤ StoreFault → Type 0
SettlesSo true state old new result = Writes state old new result
SettlesSo false state old new result = (new ≡ old) × (result ≡ Ok tt)

-- the slot once the depot is settled: it holds the present text
abbrev pub settled : Bool → LibState → Slot → Slot
settled unsettled state slot = if unsettled then written state slot else slot

-- where a call that changes the state was refused by a failure of the shelf: nothing was written; or the present text was,
-- again; or it is open whether the present text was written, or the next one's
pub data LeftOpen (unsettled : Bool) (present next : LibState) (old : Slot) (still : Bool) (new : Slot) : Type 0 where
  nothing : still ≡ unsettled → new ≡ old → LeftOpen unsettled present next old still new
  again : still ≡ unsettled → unsettled ≡ true → new ≡ written present old → LeftOpen unsettled present next old still new
  settles : still ≡ false → new ≡ settled unsettled present old → LeftOpen unsettled present next old still new
  open_present : still ≡ true → new ≡ settled unsettled present old → LeftOpen unsettled present next old still new
  open_next : still ≡ true → IsWritten next (settled unsettled present old) new → LeftOpen unsettled present next old still new

-- after want of memory nothing was written; or the present text was, again, and stands
abbrev pub LeftWanting : Bool → LibState → Slot → Bool → Slot → Type 0
LeftWanting unsettled present old still new = ((still ≡ unsettled) × (new ≡ old)) ⊎ ((still ≡ false) × (new ≡ settled unsettled present old))

-- what is left after a fault: only a failure of the shelf may leave the next text
abbrev pub LeftBy : StoreFault → Bool → LibState → LibState → Slot → Bool → Slot → Type 0
LeftBy Shelf unsettled present next old still new = LeftOpen unsettled present next old still new
LeftBy NoMemory unsettled present next old still new = LeftWanting unsettled present old still new
LeftBy (Taken id) unsettled present next old still new = ⊥
LeftBy (Wrong id) unsettled present next old still new = ⊥
LeftBy (Damaged want got) unsettled present next old still new = ⊥

-- a call that changes the state from the present to the next one writes its text, after the present one where that was
-- open; and it fails as the shelf does, or for want of memory
abbrev pub RewritesSo : Bool → LibState → LibState → Slot → Bool → Slot → Result ⊤ StoreFault → Type 0
RewritesSo unsettled present next old still new (Ok done) = (still ≡ false) × IsWritten next (settled unsettled present old) new
RewritesSo unsettled present next old still new (Err fault) = LeftBy fault unsettled present next old still new

-- one object more, where the objects are told
abbrev pub with_stored : Stored → Option Objects → Option Objects
with_stored x known = option_map (λ objects. put_new objects x) known

-- no parent of the commit is named by forty zeros
pub record HasProperParents (commit : Commit) : Type 0 where
  pub parent : IfSome commit.parent (λ id. id ≢ nil)
  pub second_parent : IfSome commit.second_parent (λ id. id ≢ nil)

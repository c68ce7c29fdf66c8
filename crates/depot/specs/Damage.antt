-- The cause of damage that a library tells, in what its shelf may give. Our own. Read IsCaused first.
use Rattle.std.specs.Prelude.{◌≢◌, ◌⊎◌, ℕ, List, Option, Some, ⊤}
use Rattle.ids.specs.declared.key.Key.{Key}
use Rattle.library_state.specs.declared.refusal.Refusal.{Refusal}
use Rattle.library_state.specs.declared.refusal.Refusal.TheVariants as refusal
use Rattle.library_state.specs.declared.reply.Reply.{Reply}
use Rattle.library_state.specs.declared.reply.Reply.TheVariants as reply
use Rattle.object_store.specs.Store.{IsDamage}
use Rattle.object_store.specs.declared.shelf.Slot.{Slot}
use Rattle.depot.specs.Giving.{IsGone, IsNothing}

-- where a refusal tells damage this may be given for a key of the wanted id: nothing, or bytes of the other name that is told
abbrev pub IsCaused : (Slot → Option (List ℕ) → Type 0) → Refusal → Type 0
IsCaused gives (refusal.Damaged want got) = (got ≢ Some want) × (key : Key) × IsDamage gives key want got
IsCaused gives other = ⊤

abbrev pub IsCausedReply : (Slot → Option (List ℕ) → Type 0) → Reply → Type 0
IsCausedReply gives (reply.Refused why) = IsCaused gives why
IsCausedReply gives other = ⊤

-- this may be given, or nothing for some key
abbrev pub OrNothing : (Slot → Option (List ℕ) → Type 0) → Slot → Option (List ℕ) → Type 0
OrNothing gives slot given = gives slot given ⊎ IsNothing slot given

-- or nothing for one of these keys
abbrev pub OrGone : List Key → (Slot → Option (List ℕ) → Type 0) → Slot → Option (List ℕ) → Type 0
OrGone keys gives slot given = gives slot given ⊎ IsGone keys slot given

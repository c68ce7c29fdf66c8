-- How an entry of the history is answered: as it was due, or by a fault. Our own. Read Plain, then Fails.
use Rattle.std.specs.Prelude.{◌≡◌, ◌≢◌, ◌⊎◌, [], Some}
use Rattle.ids.specs.FaultCount.{Rose}
use Rattle.library_state.specs.declared.refusal.Refusal.{Refusal}
use Rattle.library_state.specs.declared.refusal.Refusal.TheVariants as refusal
use Rattle.library_state.specs.declared.reply.Reply.{Reply}
use Rattle.library_state.specs.declared.reply.Reply.TheVariants as reply
use Rattle.library_rules.specs.LibraryState.{State}
use Rattle.library_rules.specs.declared.entry.Entry.{Entry}

-- the answer is this one, and the storage didn't fail
pub record Plain (s : State) (e : Entry) (r : Reply) : Type 0 where
  pub reply : e.reply ≡ r
  pub faults : e.faults ≡ s.faults

-- what may come in the place of an answer: want of memory; an id whose bytes have another name, or are gone; a failure
-- of the storage, and with it alone the count of its failures rises
abbrev pub IsFault : State → Entry → Refusal → Type 0
IsFault s e refusal.NoMemory = e.faults ≡ s.faults
IsFault s e (refusal.Damaged want got) = (e.faults ≡ s.faults) × (got ≢ Some want)
IsFault s e refusal.Store = Rose s.faults e.faults
IsFault s e other = ⊥

-- the answer is a refusal by such a fault
pub record Fails (s : State) (e : Entry) : Type 0 where
  pub why : Refusal
  pub reply : e.reply ≡ reply.Refused why
  pub fault : IsFault s e why

-- what was due, or a fault; and no object comes
abbrev pub OrFails : State → Entry → Type 0 → Type 0
OrFails s e P = (P ⊎ Fails s e) × (e.added ≡ [])

-- The history of a library: permitted entries, reads, legal histories, and what a call leaves. Our own.
-- Read IsPermitted, Legal and after, then StepSo and Stands.
use Rattle.std.specs.Prelude.{◌≡◌, ◌≢◌, ℕ, zero, suc, List, [], ◌∷◌, length, ⊤}
use Rattle.library_state.specs.declared.reply.Reply.{Reply}
use Rattle.library_rules.specs.Calls.{due}
use Rattle.library_rules.specs.Changes.{apply}
use Rattle.library_rules.specs.CollectionSteps.{Begins, SweepPermits, Ends}
use Rattle.library_rules.specs.LibraryState.{State}
use Rattle.library_rules.specs.Permitted.{DuePermits}
use Rattle.library_rules.specs.declared.entry.Entry.{Entry}
use Rattle.library_rules.specs.declared.entry.Step.{Step}
use Rattle.library_rules.specs.declared.entry.Step.TheVariants as step

-- what a step may leave: a call removes nothing, and a collection stores nothing
abbrev pub StepPermits : State → Entry → Step → Type 0
StepPermits s e (step.Asked call) = DuePermits s e (due s call) × (e.removed ≡ [])
StepPermits s e step.Began = Begins s e
StepPermits s e step.Swept = SweepPermits s e s.running × (e.added ≡ [])
StepPermits s e step.Ended = Ends s e

-- an entry is permitted as its step is
abbrev pub Permits : State → Entry → Type 0
Permits s e = StepPermits s e e.step

-- an entry that may stand in the history: it is permitted, and changes the state
pub record IsPermitted (s : State) (e : Entry) : Type 0 where
  pub permits : Permits s e
  pub changes : apply s e ≢ s

-- what leaves the state as it was is a read, and stands in no history
pub record IsRead (s : State) (e : Entry) : Type 0 where
  pub permits : Permits s e
  pub stays : apply s e ≡ s

-- each entry is permitted in the state that those before it give
abbrev pub Legal : State → List Entry → Type 0
Legal s [] = ⊤
Legal s (e ∷ es) = IsPermitted s e × Legal (apply s e) es

-- the state after so many entries; after more than there are it is the last one
abbrev pub after : State → List Entry → ℕ → State
after s es zero = s
after s [] (suc n) = s
after s (e ∷ es) (suc n) = after (apply s e) es n

-- ---- what a call or a turn leaves

-- a step as it is where it changes no object
abbrev pub lone : State → Step → ℕ → Reply → Entry
lone s st moment reply = record { step = st; moment = moment; reply = reply; added = []; removed = []; faults = s.faults }

-- the entry of a step from one state to another
pub record Enters (s : State) (st : Step) (moment : ℕ) (reply : Reply) (t : State) (e : Entry) : Type 0 where
  pub permitted : IsPermitted s e
  pub is_step : e.step ≡ st
  pub at : e.moment ≡ moment
  pub answers : e.reply ≡ reply
  pub state : apply s e ≡ t

-- a step leaves no entry exactly where it is a read, and else one
abbrev pub StepSo : State → Step → ℕ → Reply → State → List Entry → Type 0
StepSo s st moment reply t [] = (t ≡ s) × IsRead s (lone s st moment reply)
StepSo s st moment reply t (e ∷ []) = Enters s st moment reply t e
StepSo s st moment reply t (e ∷ f ∷ es) = ⊥

-- a state stands, from a start, for a legal history that leads to it
pub record Stands (start : State) (es : List Entry) (s : State) : Type 0 where
  pub legal : Legal start es
  pub state : after start es (length es) ≡ s

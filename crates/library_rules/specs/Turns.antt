-- A turn of a collection is one step of it, at most. Our own. Read TakesStep, then IsRefusedTurn.
use Rattle.std.specs.Prelude.{◌≡◌, ◌⊎◌, ℕ, List, [], ◌∷◌, ◌++◌}
use Rattle.ids.specs.declared.key.Key.{Key}
use Rattle.library_state.specs.declared.refusal.Refusal.{Refusal}
use Rattle.library_state.specs.declared.reply.Reply.{Reply}
use Rattle.library_state.specs.declared.reply.Reply.TheVariants as reply
use Rattle.library_rules.specs.History.{Enters, IsRead, lone}
use Rattle.library_rules.specs.LibraryState.{State}
use Rattle.library_rules.specs.declared.entry.Entry.{Entry}
use Rattle.library_rules.specs.declared.entry.Step.{Step}
use Rattle.library_rules.specs.declared.entry.Step.TheVariants as step

-- the keys that entries removed
abbrev pub removed_by : List Entry → List Key
removed_by [] = []
removed_by (e ∷ es) = e.removed ++ removed_by es

-- one entry leads from one state to another, by this step at this moment, so answered, and removes these keys
pub record TakesStep (s : State) (st : Step) (moment : ℕ) (r : Reply) (removed : List Key) (t : State) (es : List Entry) : Type 0 where
  pub entry : Entry
  pub one : es ≡ entry ∷ []
  pub enters : Enters s st moment r t entry
  pub removes : entry.removed ≡ removed

-- a turn that changes nothing leaves no entry
pub record TakesNone (s : State) (st : Step) (moment : ℕ) (r : Reply) (t : State) (es : List Entry) : Type 0 where
  pub none : es ≡ []
  pub same : t ≡ s
  pub read : IsRead s (lone s st moment r)

-- a turn that is refused: what it removed is gone all the same; one that removed nothing and counted no fault changes nothing
abbrev pub IsRefusedTurn : State → ℕ → Refusal → List Key → State → List Entry → Type 0
IsRefusedTurn s moment why removed t es =
    TakesStep s step.Swept moment (reply.Refused why) removed t es
    ⊎ ((removed ≡ []) × TakesNone s step.Swept moment (reply.Refused why) t es)

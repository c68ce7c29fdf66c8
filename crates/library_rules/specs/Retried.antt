-- When an update that was answered is known again, as it is sent again after its reply was lost. Our own.
-- Read IsUpdate and IsRetained, then SaysHead.
use Rattle.std.specs.Prelude.{◌≡◌, ◌⊎◌, ℕ, zero, suc, ◌≤◌, ◌<◌, true, List, [], ◌∷◌, Option, None, Some}
use Rattle.library_state.specs.Retention.{kept_for}
use Rattle.library_state.specs.declared.call.Act.TheVariants as act
use Rattle.library_state.specs.declared.call.Call.{Call}
use Rattle.library_state.specs.declared.reply.Reply.TheVariants as reply
use Rattle.library_state.specs.declared.token.Token.{Token}
use Rattle.library_rules.specs.Answered.{Fails}
use Rattle.library_rules.specs.Calls.{token_of, may}
use Rattle.library_rules.specs.Changes.{apply, counted}
use Rattle.library_rules.specs.History.{after}
use Rattle.library_rules.specs.LibraryState.{State, is_kept, head_of}
use Rattle.library_rules.specs.declared.entry.Entry.{Entry}
use Rattle.library_rules.specs.declared.entry.Step.TheVariants as step

-- the entry at a place, counted from 0
abbrev pub entry_at : List Entry → ℕ → Option Entry
entry_at [] n = None
entry_at (e ∷ es) zero = Some e
entry_at (e ∷ es) (suc n) = entry_at es n

-- the entry is an update of this commit, which was answered
pub record IsUpdate (e : Entry) (pushed : List ℕ) : Type 0 where
  pub call : Call
  pub head : List ℕ
  pub asked : e.step ≡ step.Asked call
  pub updates : call.act ≡ act.Update pushed
  pub answers : e.reply ≡ reply.Updated head

-- the call is an update of this commit, by one who may
pub record MayUpdate (s : State) (call : Call) (pushed : List ℕ) : Type 0 where
  pub token : Token
  pub known : token_of s.state.tokens call.secret ≡ Some token
  pub right : may token call.act ≡ true
  pub updates : call.act ≡ act.Update pushed

-- no collection that began from one place up to another cut away every head update of the commit
pub record IsRetained (start : State) (es : List Entry) (from to : ℕ) (commit : List ℕ) : Type 0 where
  pub each : (n : ℕ) (e : Entry) → from ≤ n → n < to → entry_at es n ≡ Some e → e.step ≡ step.Began
      → is_kept (kept_for (after start es n).state.days e.moment (after start es n).state.kept) commit ≡ true

-- the answer is the head, or a fault, and nothing changes but the count of faults
pub record SaysHead (s : State) (e : Entry) : Type 0 where
  pub answers : (e.reply ≡ reply.Updated (head_of s.state.kept)) ⊎ Fails s e
  pub stays : apply s e ≡ counted e.faults s

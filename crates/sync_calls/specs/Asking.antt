-- What a hall answers to a call, and what it leaves. Our own. Read AsksSo, then IsAt and TakesTurnAt.
use Rattle.std.specs.Prelude.{◌≡◌, ◌≢◌, ℕ, ◌<◌, true, false, List, [], ◌∷◌, length, slice_set, Option, Some}
use Rattle.std.specs.List.{slice_get}
use Rattle.library_state.specs.declared.call.Call.{Call}
use Rattle.library_state.specs.declared.refusal.Refusal.{Refusal}
use Rattle.library_state.specs.declared.refusal.Refusal.TheVariants as refusal
use Rattle.library_state.specs.declared.reply.Reply.TheVariants as reply
use Rattle.object_store.specs.Shelf.{Contents}
use Rattle.object_store.specs.declared.shelf.Slot.{Slot}
use Rattle.turnstile.specs.Rule.{most_turns}
use Rattle.sync_calls.specs.Door.{admitted}
use Rattle.sync_calls.specs.Operations.{Called, IsDone, Line}
use Rattle.sync_calls.specs.Shown.{Shown, lib_of, opening_of}
use Rattle.sync_calls.specs.declared.asking.Answer.{Answer}

-- the first library with this id has this number, and this is shown of it
pub record IsAt {S : Type 0} (us : List (Shown S)) (lib : List ℕ) (library : ℕ) (u : Shown S) : Type 0 where
  pub at : slice_get us library ≡ Some u
  pub named : lib_of u ≡ Some lib
  pub first : (j : ℕ) (v : Shown S) → j < library → slice_get us j ≡ Some v → lib_of v ≢ Some lib

-- no library has it
abbrev pub IsNowhere : {S : Type 0} → List (Shown S) → List ℕ → Type 0
IsNowhere {S} us lib = (j : ℕ) (v : Shown S) → slice_get us j ≡ Some v → lib_of v ≢ Some lib

-- a refusal that took no turn
abbrev pub without_turn : Refusal → Answer
without_turn why = record { reply = reply.Refused why; opening = 0; place = 0 }

module _ {S : Type 0} (contents : S → Option Contents) (may_give : S → Slot → Option (List ℕ) → Type 0) (texts faults : S → ℕ) where
  -- one turn was taken at the library with this number, of which this was shown; what is shown of the others stays, and the answer
  -- tells of the history as long as it is then
  pub record TakesTurnAt (library : ℕ) (u : Shown S) (us : List (Shown S)) (call : Call) (moment : ℕ) (answer : Answer) (lines : List Line) (vs : List (Shown S)) : Type 0 where
    pub place : ℕ
    pub after : Shown S
    pub done : IsDone contents may_give texts faults u place (Called call moment answer.reply) after
    pub is : vs ≡ slice_set us library after
    pub one : lines ≡ record { library = library; place = place; deed = Called call moment answer.reply } ∷ []
    pub opening : opening_of u ≡ Some answer.opening
    pub told : answer.place ≡ length after.seen

  -- there is no such library; or who asks may not, by the tokens with which the library began; or the last turn of its lock was
  -- drawn, as the pass has read; or one turn was taken. The numbers that were drawn are those after the call
  pub data AsksSo (us : List (Shown S)) (lib : List ℕ) (call : Call) (moment : ℕ) (answer : Answer) (lines : List Line) (vs : List (Shown S)) (draws : List ℕ) : Type 0 where
    nowhere : IsNowhere us lib → answer ≡ without_turn refusal.NoLibrary → lines ≡ [] → vs ≡ us → AsksSo us lib call moment answer lines vs draws
    denied : (library : ℕ) (u : Shown S) → IsAt us lib library u → admitted u.start call.secret call.act ≡ false
        → answer ≡ without_turn refusal.Denied → lines ≡ [] → vs ≡ us → AsksSo us lib call moment answer lines vs draws
    spent : (library : ℕ) (u : Shown S) → IsAt us lib library u → admitted u.start call.secret call.act ≡ true → slice_get draws library ≡ Some most_turns
        → answer ≡ without_turn refusal.Spent → lines ≡ [] → vs ≡ us → AsksSo us lib call moment answer lines vs draws
    took : (library : ℕ) (u : Shown S) → IsAt us lib library u → admitted u.start call.secret call.act ≡ true
        → (drawn : ℕ) → slice_get draws library ≡ Some drawn → drawn < most_turns
        → TakesTurnAt library u us call moment answer lines vs → AsksSo us lib call moment answer lines vs draws

-- The first of several files and directories that are asked for one after another: where the library that is asked knows all of them to
-- be too much, nothing is read. Our own. Read AsksTooMuch, then Spares and SparesReading.
use Rattle.std.proofs.Common.{inl, inr}
use Rattle.std.specs.Prelude.{◌≡◌, ◌<◌, ◌⊎◌, ℕ, true, false, List, [], ◌∷◌, length, Option, Some, ⊤}
use Rattle.library_rules.specs.Calls.{token_of}
use Rattle.library_state.specs.declared.call.Call.{Call}
use Rattle.library_state.specs.declared.refusal.Refusal.TheVariants as refusal
use Rattle.library_state.specs.declared.reply.Reply.{Reply}
use Rattle.library_state.specs.declared.reply.Reply.TheVariants as reply
use Rattle.object_store.specs.Shelf.{Contents}
use Rattle.object_store.specs.declared.shelf.Slot.{Slot}
use Rattle.depot.specs.Answering.{permits}
use Rattle.depot.specs.DepotView.{DepotView}
use Rattle.depot.specs.FirstGet.{fs_get, sizes_of}
use Rattle.turnstile.specs.Rule.{most_turns}
use Rattle.sync_calls.specs.Asking.{AsksSo, without_turn}
use Rattle.sync_calls.specs.Asking.AsksSo.{nowhere, denied, spent, took}
use Rattle.sync_calls.specs.Door.{admitted}
use Rattle.sync_calls.specs.Operations.{Called, IsChanging, IsDone, IsReading, Line}
use Rattle.sync_calls.specs.Shown.{Shown, opening_of}
use Rattle.sync_calls.specs.declared.asking.Answer.{Answer}

-- one who may asks a library for these files and directories, and its index knows them to have together more than so many bytes
abbrev pub AsksTooMuch : {S : Type 0} → Option (List ℕ) → List (List ℕ) → ℕ → DepotView S → Type 0
AsksTooMuch secret [] most depot = ⊥
AsksTooMuch secret (id ∷ ids) most depot = (permits (token_of depot.state.tokens secret) (fs_get id) ≡ true) × (most < sizes_of depot.store.index (id ∷ ids))

module _ {S : Type 0} {contents : S → Option Contents} {may_give : S → Slot → Option (List ℕ) → Type 0} {texts faults : S → ℕ} where
  -- where the very library on which a call was done is such a one, it answered with want of memory and stayed as it was
  abbrev pub Spares : (DepotView S → Type 0) → {u : Shown S} {place : ℕ} {call : Call} {moment : ℕ} → (r : Reply) → {v : Shown S}
      → IsReading contents may_give texts faults u place (Called call moment r) v ⊎ IsChanging contents may_give texts faults u place (Called call moment r) v → Type 0
  Spares too_much r (inl reads) = too_much reads.reads.before → r ≡ reply.Refused refusal.NoMemory
  Spares too_much r (inr changes) = too_much changes.change.before.value → ⊥

  -- the same of what a hall answers, where it took a turn
  abbrev pub SparesReading : (DepotView S → Type 0) → {us : List (Shown S)} {lib : List ℕ} {call : Call} {moment : ℕ} {answer : Answer} {lines : List Line} {vs : List (Shown S)} {draws : List ℕ}
      → AsksSo contents may_give texts faults us lib call moment answer lines vs draws → Type 0
  SparesReading too_much (nowhere none is no_lines stays) = ⊤
  SparesReading too_much (denied library u at may is no_lines stays) = ⊤
  SparesReading too_much (spent library u at may drawn is no_lines stays) = ⊤
  SparesReading too_much {answer = answer} (took library u at may drawn is less turn) = Spares too_much answer.reply turn.done

-- what is answered at one library, for private clauses
pub data AsksOne {S : Type 0} (contents : S → Option Contents) (may_give : S → Slot → Option (List ℕ) → Type 0) (texts faults : S → ℕ) (too_much : DepotView S → Type 0)
    (u : Shown S) (call : Call) (moment : ℕ) (answer : Answer) (v : Shown S) (drawn : ℕ) : Type 0 where
  one_denied : admitted u.start call.secret call.act ≡ false → answer ≡ without_turn refusal.Denied → v ≡ u → AsksOne contents may_give texts faults too_much u call moment answer v drawn
  one_spent : admitted u.start call.secret call.act ≡ true → drawn ≡ most_turns → answer ≡ without_turn refusal.Spent → v ≡ u
      → AsksOne contents may_give texts faults too_much u call moment answer v drawn
  one_took : admitted u.start call.secret call.act ≡ true → drawn < most_turns → (place : ℕ) → (done : IsDone contents may_give texts faults u place (Called call moment answer.reply) v)
      → Spares too_much answer.reply done → opening_of u ≡ Some answer.opening → answer.place ≡ length v.seen
      → AsksOne contents may_give texts faults too_much u call moment answer v drawn

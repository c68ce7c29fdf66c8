-- Updates whose upload held or didn't: what was told present since the upload was checked. Our own.
-- Read IsLate and IsCauseOf, then IsUpToDate and WasUploaded.
use Rattle.std.specs.Prelude.{◌≡◌, ◌≢◌, ℕ, ◌≤◌, ◌<◌, true, false, List, Option, Some, ⊤}
use Rattle.std.specs.List.{AllByRecursion}
use Rattle.ids.specs.declared.key.Key.{Key}
use Rattle.library_state.specs.declared.call.Act.TheVariants as act
use Rattle.library_state.specs.declared.call.Call.{Call}
use Rattle.library_state.specs.declared.refusal.Refusal.{Refusal}
use Rattle.library_state.specs.declared.refusal.Refusal.TheVariants as refusal
use Rattle.library_state.specs.declared.reply.Reply.{Reply}
use Rattle.library_state.specs.declared.reply.Reply.TheVariants as reply
use Rattle.library_state.specs.declared.token.Token.{Token}
use Rattle.object_graph.specs.Objects.{commit_key}
use Rattle.object_graph.specs.Traversal.{walk_commit}
use Rattle.library_rules.specs.Calls.{token_of}
use Rattle.library_rules.specs.History.{after}
use Rattle.library_rules.specs.LibraryState.{State, is_stored}
use Rattle.library_rules.specs.MergeBase.{chain_of}
use Rattle.library_rules.specs.Retried.{entry_at}
use Rattle.library_rules.specs.Uploads.{IsUploaded, is_safe}
use Rattle.library_rules.specs.declared.entry.Entry.{Entry}
use Rattle.library_rules.specs.declared.entry.Step.TheVariants as step

-- the refusals of an update whose upload didn't hold: stale, or incomplete
abbrev pub IsLate : Refusal → Type 0
IsLate (refusal.Stale last now) = ⊤
IsLate (refusal.Incomplete key) = ⊤
IsLate other = ⊥

-- why such a refusal may come: a collection began since the token's upload was checked; or nothing is stored under the key
abbrev pub IsCauseOf : State → Token → Refusal → Type 0
IsCauseOf s token (refusal.Stale last now) = (last ≡ token.last) × (now ≡ s.state.collection) × (token.last < s.state.collection)
IsCauseOf s token (refusal.Incomplete key) = is_stored s.objects key ≡ false
IsCauseOf s token other = ⊤

-- the token of a secret saw the last collection begin
pub record IsUpToDate (tokens : List Token) (collection : ℕ) (secret : Option (List ℕ)) : Type 0 where
  pub token : Token
  pub known : token_of tokens secret ≡ Some token
  pub seen : token.last ≡ collection

-- no collection begins from one place up to another
pub record NoneBegins (es : List Entry) (from to : ℕ) : Type 0 where
  pub each : (n : ℕ) (e : Entry) → from ≤ n → n < to → entry_at es n ≡ Some e → e.step ≢ step.Began

-- a key was safe at some place from one up to another
pub record WasSafe (start : State) (es : List Entry) (from to : ℕ) (key : Key) : Type 0 where
  pub place : ℕ
  pub least : from ≤ place
  pub most : place ≤ to
  pub safe : is_safe (after start es place) key ≡ true

-- each key that the traversal of a pushed commit visits was safe since, and each commit from it up to a kept one
pub record WasUploaded (start : State) (es : List Entry) (from to : ℕ) (pushed : List ℕ) : Type 0 where
  pub visited : AllByRecursion (WasSafe start es from to) (walk_commit (after start es to).objects pushed).visits
  pub chain : AllByRecursion (λ id. WasSafe start es from to (commit_key id)) (chain_of (after start es to) pushed)

-- an update whose upload is complete, of one whose token saw the last collection begin, isn't answered as late
abbrev pub TakesUploaded : State → Call → Reply → Type 0
TakesUploaded s call r = (token : Token) (pushed : List ℕ) → call.act ≡ act.Update pushed → token_of s.state.tokens call.secret ≡ Some token
    → token.last ≡ s.state.collection → IsUploaded s pushed → (why : Refusal) → IsLate why → r ≢ reply.Refused why
